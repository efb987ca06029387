-- A new graph by the lengths of the memory that it is lent.
use Rattle.std.specs.Prelude.{ℕ, ◌-◌, ◌/◌, min, [], length, replicate, None}
use Rattle.store.specs.Bank.{Bank, fresh, usable}
use Rattle.model.specs.State.{Graph}
use Rattle.store.specs.declared.parts.ListMemory.{ListMemory}
use Rattle.defs.specs.declared.memory.GraphMemory.{GraphMemory}

-- as many values as there are definitions, labels and lists of starts
abbrev pub most_values : ℕ → ℕ → ℕ → ℕ
most_values values labels heads = min (min values (min labels heads)) 1073741824

-- as many blocks as are asked for and have lists, and a third as many instructions as lists are left
abbrev pub most_blocks : ℕ → ℕ → ℕ
most_blocks heads blocks = min (min (min heads 4294967296) blocks) 1073741824

abbrev pub most_insts : ℕ → ℕ → ℕ
most_insts heads blocks = min ((min heads 4294967296 - most_blocks heads blocks) / 3) 1073741824

-- all lists of a pool are empty
abbrev pub empty_lists : {T : Type 0} → ListMemory T → Bank T
empty_lists m = fresh (min (length m.heads.now) 4294967296) (usable (length m.cells.now) (length m.chains.now))

abbrev pub opened : GraphMemory → ℕ → Graph
opened m blocks =
    record {
      defs = [];
      blocks = 0;
      insts = 0;
      words = empty_lists m.words;
      labels = replicate (most_values (length m.values.now) (length m.labels.now) (length m.starts.heads.now)) None;
      starts = empty_lists m.starts;
      limits =
          record {
            values = most_values (length m.values.now) (length m.labels.now) (length m.starts.heads.now);
            blocks = most_blocks (length m.words.heads.now) blocks;
            insts = most_insts (length m.words.heads.now) blocks;
          };
    }
