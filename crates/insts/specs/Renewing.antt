-- New results in the place of the words of a list.
use Rattle.std.specs.Prelude.{ℕ, List, [], map, length}
use Rattle.ir.specs.declared.entities.Inst.{Inst}
use Rattle.ir.specs.declared.entities.Type.{«Type» as Ty}
use Rattle.ir.specs.Packing.{type}
use Rattle.store.specs.Bank.{class_of, holding, items_of}
use Rattle.values.specs.Leads.{at}
use Rattle.model.specs.State.{Graph}
use Rattle.model.specs.Edits.{seated, seats, with_defs, with_words}

-- each word of list l exchanged for a new result of instruction i, of the word's type
abbrev pub word_types : Graph → ℕ → List Ty
word_types g l = map (λ v. type (at g.defs v)) (items_of g.words l)

abbrev pub renewed : Graph → Inst → ℕ → Graph
renewed g i l =
    with_words (with_defs g (seated i 0 (word_types g l) (seats (length g.defs) (word_types g l) []) g.defs))
    (holding g.words l (seats (length g.defs) (word_types g l) []) (class_of g.words l))
