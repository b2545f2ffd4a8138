-- Texts that end with others.
use Rattle.std.specs.Prelude.{◌≡◌, ℕ, ◌-◌, List, length, drop}

-- the last bytes of the text, as many as the other has, are the other
abbrev pub EndsWith : List ℕ → List ℕ → Type 0
EndsWith text end = drop (length text - length end) text ≡ end
