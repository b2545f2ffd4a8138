-- What sifting says of an overlap at an index.
use Rattle.std.proofs.Common.{◌≡◌, ℕ, ◌<◌, List, length, get_or, Option, Some, None, refl, sym, ◌∙◌, ap, subst, arith}
use Rattle.std.proofs.lemmas.Option.{slice_get_read, slice_get_within}
use Rattle.std.specs.Prelude.{slice_get}
use Rattle.kb_word.specs.Words.{Pair}
use Rattle.kb_word.specs.Overlap.{Overlaps, IsResolved, IsUnresolved, critical_pair}
use Rattle.kb_rules.proofs.Unique.{normal_form_unique}
use Rattle.kb_overlap.specs.Overlapping.{OverlapsRule}
use Rattle.kb_overlap.specs.declared.left_sides.Overlap.{Overlap}
use Rattle.kb_share.specs.Versions.{VersionParts}
use Rattle.kb_share.specs.Rows.{IsApartAt, SiftsAt, found_at}
use Rattle.kb_share.specs.declared.found.Found.{Found}

some-injective : {X : Type 0} {x y : X} → Some x ≡ Some y → x ≡ y
some-injective e = cc

-- a rule with itself at place 0 is no overlap
pub no_overlap : (rules : List Pair) (index : ℕ) (one : Overlap) → one.rule ≡ index → one.place ≡ 0 → ¬ IsApartAt rules index one
no_overlap rules index one same at_start apart =
    let proper : 0 < one.place = apart.overlap.proper (sym same) in
    let no : ⊥ = omega (arith, proper, at_start) in no

-- what is joined isn't apart
pub joined_not_apart : (rules : List Pair) (index : ℕ) (one : Overlap) (first second : Pair) → slice_get rules index ≡ Some first
    → slice_get rules one.rule ≡ Some second → IsResolved rules (critical_pair first second one.place) → ¬ IsApartAt rules index one
joined_not_apart rules index one first second is_first is_second joins apart =
    let same_first : first ≡ apart.first = some-injective (sym is_first ∙ apart.overlap.is_first) in
    let same_second : second ≡ apart.second = some-injective (sym is_second ∙ apart.overlap.is_second) in
    let P : Pair → Type 0 = λ rule. IsResolved rules (critical_pair rule apart.second one.place) in
    let Q : Pair → Type 0 = λ rule. IsResolved rules (critical_pair first rule one.place) in
    let both : IsResolved rules (critical_pair apart.first apart.second one.place) = subst P same_first (subst Q same_second joins) in
    apart.parts.different (normal_form_unique apart.parts.left both.left ∙ normal_form_unique both.right apart.parts.right)

-- the rule that is read at the index of an overlap overlaps
pub overlaps_read : (rules : List Pair) (l : List ℕ) (one : Overlap) (second : Pair) → OverlapsRule rules l one.rule one.place
    → slice_get rules one.rule ≡ Some second → Overlaps l second.0 one.place
overlaps_read rules l one second found is_second =
    let same : found.rule ≡ second = some-injective (sym found.is_rule ∙ is_second) in
    let Q : Pair → Type 0 = λ pair. Overlaps l pair.0 one.place in
    subst Q same found.overlaps

-- the overlap is apart
pub is_apart_at : (rules : List Pair) (index : ℕ) (one : Overlap) (first second : Pair) (u v : List ℕ)
    → slice_get rules index ≡ Some first → slice_get rules one.rule ≡ Some second → OverlapsRule rules first.0 one.rule one.place
    → (index ≡ one.rule → 0 < one.place) → IsUnresolved rules (critical_pair first second one.place) u v → IsApartAt rules index one
is_apart_at rules index one first second u v is_first is_second overlaps proper parts = record {
  first = first;
  second = second;
  overlap = record {
    is_first = is_first;
    is_second = is_second;
    overlaps = overlaps_read rules first.0 one second overlaps is_second;
    proper = proper;
  };
  u = u;
  v = v;
  parts = parts;
}

-- the rule at the index of an overlap, which is read
pub second_read : (rules read : List Pair) (l : List ℕ) (one : Overlap) (second : Pair) → OverlapsRule rules l one.rule one.place
    → read ≡ rules → second ≡ get_or read one.rule second → slice_get rules one.rule ≡ Some second
second_read rules read l one second found same is =
    slice_get_read rules (length rules) one.rule second refl (slice_get_within rules one.rule found.rule found.is_rule)
    (is ∙ ap (λ (r : List Pair). get_or r one.rule second) same)

-- an overlap by the numbers that are read
pub found_read : (numbers one two : List ℕ) (index : ℕ) (at : Overlap) → one ≡ numbers → two ≡ numbers
    → record { first = get_or one index 0; second = get_or two at.rule 0; place = at.place } ≡ found_at numbers index at
found_read numbers one two index at e f =
    ap (λ (n : List ℕ). record { first = get_or n index 0; second = get_or two at.rule 0; place = at.place }) e
    ∙ ap (λ (n : List ℕ). record { first = get_or numbers index 0; second = get_or n at.rule 0; place = at.place }) f

-- what was found, by cases
pub nothing_found : (version : VersionParts) (index : ℕ) (one : Overlap) (found : Option Found) → None ≡ found
    → SiftsAt version index one found → ¬ IsApartAt version.rules index one
nothing_found version index one found e says = subst (λ (o : Option Found). SiftsAt version index one o) (sym e) says

pub something_found : (version : VersionParts) (index : ℕ) (one : Overlap) (found : Option Found) (it : Found) → found ≡ Some it
    → SiftsAt version index one found → IsApartAt version.rules index one × (it ≡ found_at version.numbers index one)
something_found version index one found it e says = subst (λ (o : Option Found). SiftsAt version index one o) e says
