-- The overlaps in which one line begins first, by the indices of rules, and those among them that are apart.
use Rattle.std.specs.Prelude.{◌≡◌, ℕ, List, [], ◌∷◌, Option, MatchOption, slice_index}
use Rattle.kb_word.specs.Words.{Pair}
use Rattle.kb_word.specs.Overlap.{OverlapOf, IsUnresolved, critical_pair}
use Rattle.kb_overlap.specs.declared.left_sides.Overlap.{Overlap}
use Rattle.kb_share.specs.Versions.{VersionParts}
use Rattle.kb_share.specs.declared.found.Found.{Found}

-- the rule at the index overlaps with another one, and the words of the critical pair have different normal forms
pub record IsApartAt (rules : List Pair) (index : ℕ) (one : Overlap) : Type 0 where
  pub first : Pair
  pub second : Pair
  pub overlap : OverlapOf rules index one.rule one.place first second
  pub u : List ℕ
  pub v : List ℕ
  pub parts : IsUnresolved rules (critical_pair first second one.place) u v

-- the overlap with the rule at the index, by the numbers of lines
abbrev pub found_at : List ℕ → ℕ → Overlap → Found
found_at numbers index one =
    record {
      first = slice_index numbers index;
      second = slice_index numbers one.rule;
      place =
          one.place;
    }

-- the second list has, in order, what f makes of those of the first list of which P holds
pub data Picks {X Y : Type 0} (P : X → Type 0) (f : X → Y) : List X → List Y → Type 0 where
  none_left : Picks P f [] []
  left_out : {x : X} {xs : List X} {ys : List Y} → ¬ P x → Picks P f xs ys → Picks P f (x ∷ xs) ys
  picked : {x : X} {xs : List X} {ys : List Y} → P x → Picks P f xs ys
      → Picks P f (x ∷ xs) (f x ∷ ys)

-- the overlap is found where it is apart, and nothing otherwise
abbrev pub SiftsAt : VersionParts → ℕ → Overlap → Option Found → Type 0
SiftsAt version index one found = MatchOption found (¬ IsApartAt version.rules index one)
    (λ it. IsApartAt version.rules index one × (it ≡ found_at version.numbers index one))
