-- What it is to find a tree, and how it goes from part to part.
use Rattle.std.proofs.Common.{◌≡◌, ℕ, zero, suc, ◌<◌, ◌≤◌, List, [], ◌∷◌, Bool, true, false, if◌then◌else◌, refl, sym, ap, subst, arith}
use Rattle.kb_lexing.specs.Token.{Token}
use Rattle.kb_record.specs.Reading.{Reading, read, unexpected, too_deep, Parse, and_then, reading_map, joined}

-- the reading gives this tree and the rest; or the tree nests deeper than the depth
abbrev pub Finds : {A : Type 0} → ℕ → ℕ → A → List Token → Reading A → Type 0
Finds depth nesting tree rest (read found left) = (found ≡ tree) × (left ≡ rest)
Finds depth nesting tree rest (unexpected expected left) = ⊥
Finds depth nesting tree rest (too_deep left) = depth < nesting

pub found_as : {A : Type 0} (d n : ℕ) (a : A) (rest : List Token) (whole reading : Reading A) → whole ≡ reading → Finds d n a rest reading → Finds d n a rest whole
found_as d n a rest whole reading e h = let P : Reading _ → Type 0 = λ r. Finds d n a rest r in subst P (sym e) h

pub found_then : {A B : Type 0} (d n d' m : ℕ) (a : A) (b : B) (middle rest : List Token) (reading : Reading A) (next : A → Parse B) → (d < n → d' < m)
    → Finds d n a middle reading → Finds d' m b rest (next a middle) → Finds d' m b rest (and_then reading next)
found_then d n d' m a b middle rest (read found left) next less h k =
    let P : _ → Type 0 = λ x. Finds d' m b rest (next x left) in
    let Q : List Token → Type 0 = λ ts. Finds d' m b rest (next a ts) in
    subst P (sym h.0) (subst Q (sym h.1) k)
found_then d n d' m a b middle rest (unexpected expected left) next less h k = absurd h
found_then d n d' m a b middle rest (too_deep left) next less h k = less h

-- a tree made of the one that is found
pub found_map : {A B : Type 0} (d n d' m : ℕ) (a : A) (b : B) (rest : List Token) (reading : Reading A) (f : A → B) → (d < n → d' < m) → f a ≡ b → Finds d n a rest reading → Finds d' m b rest (reading_map f reading)
found_map d n d' m a b rest reading f less e h = found_then d n d' m a b rest rest reading (λ tree left. read (f tree) left) less h (e, refl)

module _ {A : Type 0} (item : Parse A) (goes_on : Parse Bool) where
  behind_item : (n : ℕ) → A → Parse (List A)
  behind_item n first rest = and_then (goes_on rest) (λ more others. if more then reading_map (λ items. first ∷ items) (joined item goes_on n others) else read (first ∷ []) others)

  pub last_found : (d m n : ℕ) (a : A) (tokens middle rest : List Token) → 0 < n → Finds d m a middle (item tokens) → goes_on middle ≡ read false rest → Finds d m (a ∷ []) rest (joined item goes_on n tokens)
  unfolding joined
  last_found d m zero a tokens middle rest h k e = let never : ⊥ = omega arith in absurd never
  last_found d m (suc n) a tokens middle rest h k e =
      found_then d m d m a (a ∷ []) middle rest (item tokens) _ (λ x. x) k
      (found_as d m (a ∷ []) rest _ _ (ap (λ r. and_then r (λ more others. if more then reading_map (λ items. a ∷ items) (joined item goes_on n others) else read (a ∷ []) others)) e) (refl, refl))

  pub more_found : (d m m' k n : ℕ) (a : A) (xs : List A) (tokens middle others rest : List Token) → m ≤ k → m' ≤ k → Finds d m a middle (item tokens) → goes_on middle ≡ read true others
      → Finds d m' xs rest (joined item goes_on n others) → Finds d k (a ∷ xs) rest (joined item goes_on (suc n) tokens)
  unfolding joined
  more_found d m m' k n a xs tokens middle others rest le le' h e more =
      found_then d m d k a (a ∷ xs) middle rest (item tokens) _ (λ x. omega arith) h
      (found_as d k (a ∷ xs) rest _ _ (ap (λ r. and_then r (λ more others'. if more then reading_map (λ items. a ∷ items) (joined item goes_on n others') else read (a ∷ []) others')) e)
      (found_map d m' d k xs (a ∷ xs) rest (joined item goes_on n others) (λ items. a ∷ items) (λ x. omega arith) refl more))
