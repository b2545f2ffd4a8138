-- Where a word stands in another, by its letters from a place on.
use Rattle.std.proofs.Common.{◌≡◌, ℕ, ◌+◌, ◌-◌, ◌<◌, ◌≤◌, List, ◌++◌, length, take, drop, Bool, nat_eq, sym, ap, ◌∙◌, ◌↔◌, IsTrue, arith, append_assoc, length-append, length-take}
use Rattle.std.specs.Cmp.Lexicographic.{pointwise}
use Rattle.std.proofs.Math.Seq.{drop-append_seam}
use Rattle.std.proofs.lemmas.List.{take-append-drop}
use Rattle.std.proofs.lemmas.Bool.Decides.{Decides-eqb}
use Rattle.std.proofs.lemmas.Slice.Eq.{starts_is, ends_is}
use Rattle.std.proofs.lemmas.Grind.{common_steps}
use Rattle.kb_word.specs.Words.{StandsAt, IsFactor, EndsWith}

-- what `ends_with` answers of the letters says that the word ends with these
pub answer_ends : (w v : List ℕ) (b : Bool) → b ≡ pointwise nat_eq v (drop (length w - length v) w) → IsTrue b ↔ EndsWith w v
answer_ends w v b e =
    let decides = ends_is Decides-eqb w v b e in
    (λ h. (take (length w - length v) w, decides.0 h), λ h. decides.1 h.0 h.1)

-- from the place on the letters begin with v
pub stands_from : (w v after : List ℕ) (place : ℕ) → place ≤ length w → drop place w ≡ v ++ after → StandsAt w v place
stands_from w v after place h e = record {
  before = take place w;
  after = after;
  whole = sym (take-append-drop place w) ∙ ap (λ rest. take place w ++ rest) e ∙ sym (append_assoc (take place w) v after);
  at = omega (arith, length-take place w);
}

-- the letters from the place on, where v stands there
pub stands_rest : (w v : List ℕ) (place : ℕ) (at : StandsAt w v place) → drop place w ≡ v ++ at.after
stands_rest w v place at =
    let seam = drop-append_seam at.before (v ++ at.after) in
    let whole = at.whole ∙ append_assoc at.before v at.after in
    ap (λ n. drop n w) (sym at.at) ∙ ap (drop (length at.before)) whole ∙ seam

pub stands_within : (w v : List ℕ) (place : ℕ) → StandsAt w v place → place + length v ≤ length w
stands_within w v place at =
    let whole = ap length at.whole in
    let one = length-append (at.before ++ v) at.after in
    let two = length-append at.before v in
    let start = at.at in
    omega arith

whole_rest : (w : List ℕ) (place : ℕ) → take (length w - place) (drop place w) ≡ drop place w
whole_rest w place = grind (arith, common_steps)

-- what `starts_with` answers of the letters from a place on
pub answer_stands : (w v : List ℕ) (place : ℕ) (b : Bool) → place ≤ length w
    → b ≡ pointwise nat_eq v (take (length v) (take (length w - place) (drop place w))) → IsTrue b ↔ StandsAt w v place
answer_stands w v place b h e =
    let decides = starts_is Decides-eqb (drop place w) v b (e ∙ ap (λ rest. pointwise nat_eq v (take (length v) rest)) (whole_rest w place)) in
    (λ t. stands_from w v (drop (length v) (drop place w)) place h (decides.0 t), λ at. decides.1 at.after (stands_rest w v place at))

-- no place up to the end is one where v stands
pub no_factor : (w v : List ℕ) (n : ℕ) → length w < n → ((earlier : ℕ) → earlier < n → ¬ StandsAt w v earlier) → ¬ IsFactor w v
no_factor w v n h none factor =
    let within = stands_within w v factor.0 factor.1 in none factor.0 (omega arith) factor.1
