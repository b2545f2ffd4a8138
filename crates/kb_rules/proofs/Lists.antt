-- Fronts and ends of lists, and the last element.
use Rattle.std.proofs.Common.{◌≡◌, All, subst, ◌+◌, ◌<◌, length-append, arith, ◌≢◌, ℕ, ◌≤◌, ◌⊎◌, List, [], ◌∷◌, ◌++◌, length, take, drop, refl, sym, ap, ◌∙◌, inl, inr}
use Rattle.std.proofs.lemmas.List.{get_or-append-add, get_or_append_left, take_at, take-append-le, take-append-drop, append_cancel_left}
use Rattle.std.proofs.lemmas.Bool.{cases_eq}

-- of two fronts of one list the shorter is a front of the longer
pub longer_front : (x a y b : List ℕ) → x ++ a ≡ y ++ b → length x ≤ length y → x ++ drop (length x) y ≡ y
longer_front x a y b same fits =
    let e : x ≡ take (length x) y = sym (take_at x a (length x) refl) ∙ ap (take (length x)) same ∙ take-append-le (length x) y b fits in
    ap (λ front. front ++ drop (length x) y) e ∙ take-append-drop (length x) y

pub cases_list : (u v : List ℕ) → (u ≡ v) ⊎ (u ≢ v)
cases_list [] [] = inl refl
cases_list [] (y ∷ v) = inr (λ e. cc)
cases_list (x ∷ u) [] = inr (λ e. cc)
cases_list (x ∷ u) (y ∷ v) =
    elim (cases_eq x y) [
      | inl same ↦ elim (cases_list u v) [ inl rest ↦ inl (cc (same, rest)) | inr apart ↦ inr (λ e. apart (cc e)) ]
      | inr apart ↦ inr (λ e. apart (cc e))
    ]

-- equal lists whose fronts are equally long have equal fronts and equal rests
pub append_cancel_long : (x a y b : List ℕ) → x ++ a ≡ y ++ b → length x ≡ length y → (x ≡ y) × (a ≡ b)
append_cancel_long x a y b same long =
    let front : x ≡ y = sym (take_at x a (length x) refl) ∙ ap (take (length x)) same ∙ take_at y b (length x) (sym long) in
    (front, append_cancel_left x a b (same ∙ ap (λ z. z ++ b) (sym front)))

-- a list is empty or has a last element
pub data FromEnd : List ℕ → Type 0 where
  empty : FromEnd []
  last : (front : List ℕ) (x : ℕ) → FromEnd (front ++ x ∷ [])

ended_more : (x : ℕ) (w : List ℕ) → FromEnd w → FromEnd (x ∷ w)
ended_more x w empty = last [] x
ended_more x w (last front y) = last (x ∷ front) y

pub from_end : (w : List ℕ) → FromEnd w
from_end [] = empty
from_end (x ∷ w) = ended_more x w (from_end w)

-- what stands in the empty word is empty
pub empty_middle : (before w after : List ℕ) → [] ≡ before ++ w ++ after → w ≡ []
empty_middle [] [] after whole = refl
empty_middle [] (x ∷ w) after whole = absurd (cc whole)
empty_middle (y ∷ before) w after whole = absurd (cc whole)

-- what holds of each element holds of each element of an equal list
pub All-same : (P : ℕ → Type 0) (xs ys : List ℕ) → xs ≡ ys → All P ys → All P xs
All-same P xs ys same all = let Q : List ℕ → Type 0 = λ zs. All P zs in subst Q (sym same) all

-- what holds of each element holds of those after a front
pub All-rest : (P : ℕ → Type 0) (rest whole front : List ℕ) → whole ≡ front ++ rest → All P whole → All P rest
All-rest P rest whole front same all k d within =
    let Q : List ℕ → Type 0 = λ zs. All P zs in
    let both : All P (front ++ rest) = subst Q same all in
    let fits : length front + k < length (front ++ rest) = omega (arith, length-append front rest) in
    subst P (get_or-append-add front rest k d) (both (length front + k) d fits)

-- what holds of each element holds of each element of a front
pub All-front : (P : ℕ → Type 0) (front whole rest : List ℕ) → whole ≡ front ++ rest → All P whole → All P front
All-front P front whole rest same all k d within =
    let Q : List ℕ → Type 0 = λ zs. All P zs in
    let both : All P (front ++ rest) = subst Q same all in
    let fits : k < length (front ++ rest) = omega (arith, length-append front rest) in
    subst P (get_or_append_left front rest d k within) (both k d fits)
