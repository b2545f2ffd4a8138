-- The numbers of the states, as callers see them.
use Rattle.std.proofs.Common.{◌≡◌, ℕ, zero, suc, ◌+◌, ◌<◌, ◌≤◌, List, [], ◌∷◌, ◌++◌, length, get_or, set, take, refl, sym, ap, ◌∙◌, arith, Result, Ok, Err, OnErr}
use Rattle.std.proofs.lemmas.List.{ext_get_or, get_or-take, length-take-le, take_more_set, length_push}
use Rattle.kb_trie.specs.States.{States, word}
use Rattle.kb_trie.proofs.Growing.{grown}
use Rattle.kb_trie.specs.Ends.{IsEnd}

-- numbers that agree at all places
pub take_same : (count : ℕ) (one two : List ℕ) → count ≤ length one → count ≤ length two
    → ((place : ℕ) → get_or one place 0 ≡ get_or two place 0) → take count one ≡ take count two
take_same count one two fits_one fits_two same =
    let long_one : length (take count one) ≡ count = length-take-le count one fits_one in
    let long_two : length (take count two) ≡ count = length-take-le count two fits_two in
    ext_get_or 0 (take count one) (take count two) (long_one ∙ sym long_two)
    (λ i within.
    let below : i < count = omega (arith, long_one) in
    get_or-take count one i 0 below ∙ same i ∙ sym (get_or-take count two i 0 below))

pub take_set : (count : ℕ) (numbers : List ℕ) (state number : ℕ) → state < count
    → take count (set numbers state number) ≡ set (take count numbers) state number
take_set zero numbers state number within = absurd (omega arith)
take_set (suc count) [] state number within = refl
take_set (suc count) (first ∷ numbers) zero number within = refl
take_set (suc count) (first ∷ numbers) (suc state) number within = ap (λ (ns : List ℕ). first ∷ ns) (take_set count numbers state number (omega arith))

-- an end by the numbers that callers see
pub end_seen : (words : List (List ℕ)) (numbers : List ℕ) (state end : ℕ) → IsEnd words numbers state end
    → IsEnd words (take (length words) numbers) state end
end_seen words numbers state end is =
    record {
      within = is.within;
      ends = is.ends;
      keeps = λ some. omega (arith, is.keeps some, get_or-take (length words) numbers end 0 is.within);
      longest = λ other within keeps ends.
          is.longest other within (omega (arith, keeps, get_or-take (length words) numbers other 0 within)) ends;
    }

-- what callers know, of its parts
abbrev pub by : List (List ℕ) → List ℕ → States
by words numbers = record { words = words; numbers = numbers }

pub on_err_any : {T E : Type 0} {P : Type 0} (r : Result T E) → P → OnErr r P
on_err_any (Ok x) p = tt
on_err_any (Err e) p = p

-- with a state more, which keeps no number
pub numbers_added : (words words' : List (List ℕ)) (root letter count : ℕ) (old numbers numbers' : List ℕ) → words' ≡ grown words root letter
    → count ≡ length words → count < length numbers → length words ≤ length old → length words ≤ length numbers
    → ((place : ℕ) → get_or numbers place 0 ≡ get_or old place 0) → numbers' ≡ set numbers count 0
    → take (length words') numbers' ≡ take (length words) old ++ 0 ∷ []
numbers_added words words' root letter count old numbers numbers' grows counted room fits_old fits same is =
    let n : ℕ = length words in
    let more : length words' ≡ n + 1 = ap length grows ∙ length_push words (word words root ++ letter ∷ []) in
    ap (λ (k : ℕ). take k numbers') more ∙ ap (λ (ns : List ℕ). take (n + 1) ns) (is ∙ ap (λ (k : ℕ). set numbers k 0) counted)
    ∙ take_more_set numbers n 0 (omega arith) ∙ ap (λ (ns : List ℕ). ns ++ 0 ∷ []) (take_same n numbers old fits fits_old same)
