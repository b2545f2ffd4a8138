-- Texts whose bytes are all from one on.
use Rattle.std.proofs.Common.{◌≡◌, ◌≢◌, ℕ, ◌<◌, ◌≤◌, false, eqb, List, [], ◌∷◌, ◌++◌, ne_eqb, arith}
use Rattle.std.specs.List.{AllByRecursion, join_with_byte}
use Rattle.std.specs.Prelude.{map, All}
use Rattle.std.proofs.lemmas.List.Elements.{All-head, All-tail}
use Rattle.kb_proof.specs.Reading.{AllFrom}

pub from_weaker : (j k : ℕ) (xs : List ℕ) → j ≤ k → AllFrom k xs → AllFrom j xs
from_weaker j k [] h all = tt
from_weaker j k (x ∷ xs) h all = (omega (arith, all.0), from_weaker j k xs h all.1)

pub from_append : (k : ℕ) (xs ys : List ℕ) → AllFrom k xs → AllFrom k ys → AllFrom k (xs ++ ys)
from_append k [] ys h g = g
from_append k (x ∷ xs) ys h g = (h.0, from_append k xs ys h.1 g)

pub from_join : (k c : ℕ) (xs : List (List ℕ)) → k ≤ c → AllByRecursion (AllFrom k) xs → AllFrom k (join_with_byte c xs)
from_join k c [] low h = tt
from_join k c (x ∷ []) low h = h.0
from_join k c (x ∷ y ∷ xs) low h = from_append k x (c ∷ join_with_byte c (y ∷ xs)) h.0 (low, from_join k c (y ∷ xs) low h.1)

pub all_map : {T : Type 0} (k : ℕ) (text : T → List ℕ) (Fits : T → Type 0) → ((value : T) → Fits value → AllFrom k (text value))
    → (values : List T) → All Fits values → AllByRecursion (AllFrom k) (map text values)
all_map k text Fits each [] all = tt
all_map k text Fits each (x ∷ xs) all = (each x (All-head Fits x xs all), all_map k text Fits each xs (All-tail Fits x xs all))

-- none of the bytes is one below
pub none_below : (k c : ℕ) (xs : List ℕ) → c < k → AllFrom k xs → AllByRecursion (λ b. eqb b c ≡ false) xs
none_below k c [] low h = tt
none_below k c (x ∷ xs) low h =
    let other : x ≢ c = omega (arith, h.0) in
    (ne_eqb x c other, none_below k c xs low h.1)
