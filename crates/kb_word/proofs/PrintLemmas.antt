-- Joined pieces, one more at a time.
use Rattle.std.proofs.Common.{◌≡◌, ◌∙◌, ℕ, ◌+◌, ◌<◌, List, [], ◌∷◌, ◌++◌, length, take, get_or, map, refl, sym, ap, append_assoc, Result, Ok, Err, OnErr}
use Rattle.std.proofs.lemmas.List.{take_more}
use Rattle.std.specs.List.{join_with_byte}
use Rattle.kb_word.specs.Printed.{letter_name}

-- one more piece comes after the byte between
pub join_more : (c : ℕ) (f : ℕ → List ℕ) (x : ℕ) (xs : List ℕ) (y : ℕ)
    → join_with_byte c (map f (x ∷ xs)) ++ c ∷ f y ≡ join_with_byte c (map f (x ∷ xs ++ y ∷ []))
join_more c f x [] y = refl
join_more c f x (z ∷ zs) y = append_assoc (f x) (c ∷ join_with_byte c (map f (z ∷ zs))) (c ∷ f y)
    ∙ ap (λ l. f x ++ c ∷ l) (join_more c f z zs y)

-- what is printed of a word from its first letter on
abbrev pub begun : List (List ℕ) → ℕ → List ℕ → List ℕ
begun names first letters = join_with_byte 42 (map (letter_name names) (first ∷ letters))

-- a star and the next letter's name
pub begun_more : (names : List (List ℕ)) (first : ℕ) (rest : List ℕ) (place letter : ℕ) (old starred named out : List ℕ) → place < length rest
    → letter ≡ get_or rest place letter → old ≡ out ++ begun names first (take place rest) → starred ≡ old ++ 42 ∷ []
    → named ≡ starred ++ letter_name names letter → named ≡ out ++ begun names first (take (place + 1) rest)
begun_more names first rest place letter old starred named out within is so_far star name =
    let text = begun names first (take place rest) in
    let more : take (place + 1) rest ≡ take place rest ++ letter ∷ [] = take_more rest place letter within ∙ ap (λ x. take place rest ++ x ∷ []) (sym is) in
    name ∙ (ap (λ l. l ++ letter_name names letter) (star ∙ ap (λ l. l ++ 42 ∷ []) so_far)
    ∙ (append_assoc (out ++ text) (42 ∷ []) (letter_name names letter)
    ∙ (append_assoc out text (42 ∷ letter_name names letter)
    ∙ ap (λ l. out ++ l) (join_more 42 (letter_name names) first (take place rest) letter ∙ ap (begun names first) (sym more)))))

pub on_err : {T E P : Type 0} (r : Result T E) → P → OnErr r P
on_err (Ok x) p = tt
on_err (Err e) p = p
