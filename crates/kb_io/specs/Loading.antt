-- What a shelf answers.
use Rattle.std.specs.Prelude.{◌≡◌, ℕ, ◌<◌, ◌≤◌, List, length, Option, Some, None, IsSomeAnd, Bool, true, false, Result, Err}
use Rattle.kb_io.specs.declared.shelf.Load.{Load}
use Rattle.kb_io.specs.declared.shelf.Load.TheVariants.{Text, Missing, TooLong}
use Rattle.kb_io.specs.declared.shelf.ShelfFault.{ShelfFault}
use Rattle.kb_io.specs.declared.shelf.ShelfFault.TheVariants.{Failed}

-- What a load answers under a name that holds these bytes, or none: the bytes where they are at most
-- max, Missing where there are none, TooLong where there are more than max.
abbrev pub LoadGives : Option (List ℕ) → ℕ → Load → Type 0
LoadGives held max (Text text) = (held ≡ Some text.items) × (length text.items ≤ max)
LoadGives held max Missing = held ≡ None
LoadGives held max TooLong = IsSomeAnd held (λ bytes. max < length bytes)

-- whether the device failed
abbrev pub has_failed : {T : Type 0} → Result T ShelfFault → Bool
has_failed (Err Failed) = true
has_failed _ = false
