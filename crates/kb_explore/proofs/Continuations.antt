-- Words with a letter more at the end, in the shortlex order.
use Rattle.std.proofs.Common.{ℕ, ◌<◌, List, [], ◌∷◌, ◌++◌, refl, ap, subst, ◌∙◌, inl, inr, arith, length-append}
use Rattle.std.proofs.lemmas.Bool.{cases_order}
use Rattle.std.proofs.lemmas.List.{append-nil}
use Rattle.kb_word.specs.Words.{Less, shorter, earlier, IsEarlier}
use Rattle.kb_word.specs.ShortlexLaws.{shortlex_irreflexive, shortlex_transitive, shortlex_total}

earlier_continued : (u v more others : List ℕ) → IsEarlier u v → IsEarlier (u ++ more) (v ++ others)
earlier_continued [] v more others h = absurd h
earlier_continued (x ∷ u) [] more others h = absurd h
earlier_continued (x ∷ u) (y ∷ v) more others (inl h) = inl h
earlier_continued (x ∷ u) (y ∷ v) more others (inr h) = inr (h.0, earlier_continued u v more others h.1)

earlier_behind : (u : List ℕ) (x y : ℕ) → x < y → IsEarlier (u ++ x ∷ []) (u ++ y ∷ [])
earlier_behind [] x y less = inl less
earlier_behind (z ∷ u) x y less = inr (refl, earlier_behind u x y less)

-- a lesser word is lesser with a letter more, whichever it is
pub less_continued : (u v : List ℕ) (x y : ℕ) → Less u v → Less (u ++ x ∷ []) (v ++ y ∷ [])
less_continued u v x y (shorter h) =
    let one = length-append u (x ∷ []) in
    let two = length-append v (y ∷ []) in
    shorter (omega arith)
less_continued u v x y (earlier e h) =
    let one = length-append u (x ∷ []) in
    let two = length-append v (y ∷ []) in
    earlier (omega arith) (earlier_continued u v (x ∷ []) (y ∷ []) h)

-- and one word with a lesser letter more is lesser
pub less_behind : (u : List ℕ) (x y : ℕ) → x < y → Less (u ++ x ∷ []) (u ++ y ∷ [])
less_behind u x y less =
    let one = length-append u (x ∷ []) in
    let two = length-append u (y ∷ []) in
    earlier (omega arith) (earlier_behind u x y less)

pub empty_before : (u : List ℕ) (x : ℕ) → Less [] (u ++ x ∷ [])
empty_before u x = let one = length-append u (x ∷ []) in shorter (omega arith)

pub nothing_before_empty : (u : List ℕ) → ¬ Less u []
nothing_before_empty u (shorter h) = omega arith
nothing_before_empty [] (earlier e h) = h
nothing_before_empty (x ∷ u) (earlier e h) = h

pub not_before : (u v : List ℕ) → Less u v → ¬ Less v u
not_before u v one other = shortlex_irreflexive u (shortlex_transitive u v u one other)

-- where t is no less than the word, and that with the letter no less than the other, t with the letter is no less
-- either
pub not_less_continued : (t word other : List ℕ) (x : ℕ) → ¬ Less t word → ¬ Less (word ++ x ∷ []) other → ¬ Less (t ++ x ∷ []) other
not_less_continued t word other x one two less =
    elim (shortlex_total t word) [
      | inl same ↦ (let P : List ℕ → Type 0 = λ u. Less (u ++ x ∷ []) other in two (subst P same less))
      | inr differ ↦ elim differ [
        | inl before ↦ one before
        | inr behind ↦ two (shortlex_transitive (word ++ x ∷ []) (t ++ x ∷ []) other (less_continued word t x x behind) less)
      ]
    ]

-- a text that stands in front of one before the word is before it too
pub front_before : (u more word : List ℕ) → Less (u ++ more) word → Less u word
front_before u [] word less = let P : List ℕ → Type 0 = λ t. Less t word in subst P (append-nil u) less
front_before u (x ∷ more) word (shorter h) = let count = length-append u (x ∷ more) in shorter (omega arith)
front_before u (x ∷ more) word (earlier e h) = let count = length-append u (x ∷ more) in shorter (omega arith)

-- where t is no less than the word, and yet less with x than that with y, x is less than y
pub lesser_letter : (t word : List ℕ) (x y : ℕ) → ¬ Less t word → Less (t ++ x ∷ []) (word ++ y ∷ []) → x < y
lesser_letter t word x y not_less less =
    elim (shortlex_total t word) [
      | inl same ↦ elim (cases_order x y) [
        | inl alike ↦ (
            let P : List ℕ → Type 0 = λ u. Less u (word ++ y ∷ []) in
            absurd (shortlex_irreflexive (word ++ y ∷ [])
            (subst P (ap (λ u. u ++ x ∷ []) same ∙ ap (λ z. word ++ z ∷ []) alike) less))
            )
        | inr differ ↦ elim differ [
          | inl before ↦ before
          | inr behind ↦ (
              let P : List ℕ → Type 0 = λ u. Less (u ++ x ∷ []) (word ++ y ∷ []) in
              absurd (not_before (word ++ y ∷ []) (word ++ x ∷ []) (less_behind word y x behind) (subst P same less))
              )
        ]
      ]
      | inr differ ↦ elim differ [
        | inl before ↦ absurd (not_less before)
        | inr behind ↦ absurd (not_before (word ++ y ∷ []) (t ++ x ∷ []) (less_continued word t y x behind) less)
      ]
    ]

-- what is greater than the word is not passed by a text that is less with a letter than the word with one
pub not_passed : (t word other : List ℕ) (x y : ℕ) → Less word other → Less (t ++ x ∷ []) (word ++ y ∷ []) → Less t other
not_passed t word other x y greater less =
    elim (shortlex_total t other) [
      | inl same ↦ (
          let P : List ℕ → Type 0 = λ u. Less (u ++ x ∷ []) (word ++ y ∷ []) in
          absurd (not_before (word ++ y ∷ []) (other ++ x ∷ []) (less_continued word other y x greater) (subst P same less))
          )
      | inr differ ↦ elim differ [
        | inl before ↦ before
        | inr behind ↦
            absurd (not_before (word ++ y ∷ []) (t ++ x ∷ [])
            (less_continued word t y x (shortlex_transitive word other t greater behind)) less)
      ]
    ]

-- nothing is between the empty word and the least letter
pub none_between : (u : List ℕ) → Less [] u → ¬ Less u (0 ∷ [])
none_between [] above below = nothing_before_empty [] above
none_between (x ∷ u) above (shorter h) = omega arith
none_between (x ∷ u) above (earlier e (inl h)) = omega arith
none_between (x ∷ []) above (earlier e (inr h)) = h.1
none_between (x ∷ y ∷ u) above (earlier e (inr h)) = h.1
