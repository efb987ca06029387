use Rattle.std.proofs.Common.{◌≡◌, ◌-◌, length}
use Rattle.values.specs.Defs.{definitions}
use Rattle.values.specs.Leads.{walk, leads_to}
use Rattle.values.proofs.resolve.resolve.Given as goal

-- the looks that are left find from here what all of them find from the start
abbrev pub invariant-loop : goal.invariant-loop
invariant-loop l =
    walk (length (definitions l.defs) - l.counter) (definitions l.defs) l.place
    ≡ leads_to (definitions l.defs) l.initial.place
