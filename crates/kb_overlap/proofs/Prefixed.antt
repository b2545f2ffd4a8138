-- The overlaps with contained left sides, letter by letter.
use Rattle.std.proofs.Common.{◌≡◌, ℕ, ◌+◌, ◌<◌, ◌≤◌, List, length, take, subst, inl, inr, arith, length-take}
use Rattle.std.proofs.lemmas.Bool.{cases_lt}
use Rattle.kb_word.specs.Words.{Pair}
use Rattle.kb_trie.specs.States.{word}
use Rattle.kb_trie.proofs.Suffixes.{ends_length, ends_within}
use Rattle.kb_index.specs.Automata.{StandsFor, HaveLefts}
use Rattle.kb_index.specs.Lefts.{left_at}
use Rattle.kb_overlap.specs.declared.left_sides.Overlap.{Overlap}
use Rattle.kb_overlap.specs.Prefixes.{AreWordsOf}
use Rattle.kb_overlap.specs.Ways.{EndsPrefix, EndsRead, Gains, IsContained}
use Rattle.kb_overlap.proofs.Gaining.{gains_none, gains_same, gains_then}
use Rattle.kb_overlap.proofs.Suffixed.{left_to_state}
use Rattle.kb_overlap.proofs.Sticking.{contained_of, ends_prefix}

-- nothing ends before a letter is read
pub prefix_none : (rules : List Pair) (index : ℕ) (l : List ℕ) (xs : List Overlap) → Gains (EndsPrefix rules index l 0) xs xs
prefix_none rules index l xs =
    gains_none (EndsPrefix rules index l 0) xs (λ one ends.
    let upto : ends.read ≤ 0 = ends.within in
    let fits = ends_length (take ends.read l) (left_at rules one.rule) ends.ends.ends in
    let longer = ends.ends.longer in
    omega (arith, length-take ends.read l))

-- a letter more is read
pub prefix_more : {rules : List Pair} {words : List (List ℕ)} → AreWordsOf rules words → (index : ℕ) (l : List ℕ) (count next : ℕ)
    (xs ys zs : List Overlap) → StandsFor words (take (count + 1) l) next → Gains (EndsPrefix rules index l count) xs ys
    → Gains (EndsRead rules index (word words next) (count + 1) 0) ys zs → Gains (EndsPrefix rules index l (count + 1)) xs zs
prefix_more {rules} {words} known index l count next xs ys zs stands before added =
    let w : List ℕ = take (count + 1) l in
    gains_then (EndsPrefix rules index l count) (EndsRead rules index (word words next) (count + 1) 0) (EndsPrefix rules index l (count + 1)) xs ys zs
    before added
    (λ one ends. record { read = ends.read; within = let within = ends.within in omega arith; ends = ends.ends })
    (λ one ends.
    record {
      read = count + 1;
      within = omega arith;
      ends = record {
        within = ends.within;
        ends = ends_within w (word words next) (left_at rules one.rule) stands.longest.ends ends.ends;
        longer = ends.longer;
        upto = ends.upto;
        other = ends.other;
      };
    })
    (λ one ends.
    elim (cases_lt count ends.read) [
      | inl late ↦
          let within : ends.read ≤ count + 1 = ends.within in
          let same : ends.read ≡ count + 1 = omega arith in
          let P : ℕ → Type 0 = λ k. EndsRead rules index (take k l) k 0 one in
          let here : P (count + 1) = subst P same ends.ends in
          inr (record {
            within = here.within;
            ends = left_to_state known w next one.rule stands here.within here.ends;
            longer = here.longer;
            upto = here.upto;
            other = here.other;
          })
      | inr early ↦ inl (record { read = ends.read; within = early; ends = ends.ends })
    ])

-- all letters were read
pub prefix_all : (rules : List Pair) → HaveLefts rules → (index : ℕ) → index < length rules → (l : List ℕ) (count : ℕ) (xs ys : List Overlap)
    → l ≡ left_at rules index → count ≡ length l → Gains (EndsPrefix rules index l count) xs ys → Gains (IsContained rules index) xs ys
prefix_all rules lefts index within l count xs ys same all gains =
    let P : List ℕ → ℕ → Type 0 = λ w k. Gains (EndsPrefix rules index w k) xs ys in
    let Q : List ℕ → Type 0 = λ w. P w (length w) in
    let whole : Q l = subst (λ (k : ℕ). P l k) all gains in
    gains_same (EndsPrefix rules index (left_at rules index) (length (left_at rules index))) (IsContained rules index) xs ys
    (λ one ends. contained_of rules lefts index within one ends) (λ one is. ends_prefix rules lefts index one is) (subst Q same whole)
