-- What the copies are told, and what that does to what they hold.
use Rattle.std.specs.Prelude.{Bool, true, List, [], ◌∷◌}
use Rattle.kb_publish.specs.declared.versions.Shown.{Shown}
use Rattle.kb_publish.specs.declared.versions.Entry.{Entry}
use Rattle.kb_publish.specs.declared.versions.Entry.TheVariants.{Begins, Operation}

-- whether publishing has begun, and the state of the version
abbrev pub stage : {V S : Type 0} → (V → S) → Shown V → Bool × S
stage state shown = (shown.begun, state shown.version)

-- the stage after an entry
abbrev pub entered : {S O : Type 0} → (S → O → S) → Bool × S → Entry O → Bool × S
entered applied before Begins = (true, before.1)
entered applied before (Operation operation) = (before.0, applied before.1 operation)

-- the operations among the entries, in their order
abbrev pub operations : {O : Type 0} → List (Entry O) → List O
operations [] = []
operations (Begins ∷ entries) = operations entries
operations (Operation operation ∷ entries) = operation ∷ operations entries
