-- Words over the generators, put together and taken apart.
use Rattle.std.proofs.Common.{ℕ, ◌<◌, ◌≤◌, List, [], ◌∷◌, ◌++◌}
use Rattle.std.proofs.lemmas.List.Elements.{All-nil, All-cons, All-head, All-tail, All-append}
use Rattle.kb_word.specs.Relations.{IsOver}

abbrev IsLetter : ℕ → ℕ → Type 0
IsLetter n x = (0 < x) × (x ≤ n)

pub over_empty : (n : ℕ) → IsOver n []
over_empty n = All-nil (IsLetter n)

pub over_first : (n x : ℕ) (w : List ℕ) → IsOver n (x ∷ w) → (0 < x) × (x ≤ n)
over_first n x w over = All-head (IsLetter n) x w over

pub over_later : (n x : ℕ) (w : List ℕ) → IsOver n (x ∷ w) → IsOver n w
over_later n x w over = All-tail (IsLetter n) x w over

pub over_append : (n : ℕ) (u w : List ℕ) → IsOver n u → IsOver n w → IsOver n (u ++ w)
over_append n u w front rest = All-append (IsLetter n) u w front rest

pub over_last : (n : ℕ) (u : List ℕ) (x : ℕ) → IsOver n u → (0 < x) × (x ≤ n) → IsOver n (u ++ x ∷ [])
over_last n u x front letter = over_append n u (x ∷ []) front (All-cons (IsLetter n) x [] letter (over_empty n))

pub over_front : (n : ℕ) (u w : List ℕ) → IsOver n (u ++ w) → IsOver n u
over_front n [] w over = over_empty n
over_front n (x ∷ u) w over =
    All-cons (IsLetter n) x u (over_first n x (u ++ w) over) (over_front n u w (over_later n x (u ++ w) over))

pub over_rest : (n : ℕ) (u w : List ℕ) → IsOver n (u ++ w) → IsOver n w
over_rest n [] w over = over
over_rest n (x ∷ u) w over = over_rest n u w (over_later n x (u ++ w) over)

-- where a part is replaced by a word over the generators, the whole stays over them
pub over_replaced : (n : ℕ) (before left right after : List ℕ) → IsOver n (before ++ left ++ after) → IsOver n right
    → IsOver n (before ++ right ++ after)
over_replaced n before left right after whole middle =
    let front = over_front n before left (over_front n (before ++ left) after whole) in
    over_append n (before ++ right) after (over_append n before right front middle)
    (over_rest n (before ++ left) after whole)
