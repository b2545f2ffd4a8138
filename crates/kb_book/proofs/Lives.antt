-- The lines of versions, where a line comes, where one goes, and where the live ones are published.
use Rattle.std.proofs.Common.{◌≡◌, ℕ, zero, suc, ◌+◌, ◌-◌, ◌<◌, ◌≤◌, Bool, true, false, ◌&&◌, nat_le, nat_lt, if◌then◌else◌, List, [], ◌∷◌, ◌++◌, length, map, get_or, take, slice_get, slice_set, Some, All, refl, sym, ap, ◌∙◌, subst, inl, inr, arith}
use Rattle.std.specs.List.{range_with_len, remove}
use Rattle.std.proofs.lemmas.Bool.{cases_Bool, lt-ltb, le-ltb, le-leb, lt-leb, ltb-true, and_parts, and_from, and_left, and_right}
use Rattle.std.proofs.lemmas.List.{take_more, length-take-le}
use Rattle.std.proofs.lemmas.List.FromFn.{length-map-range_with_len, get_or-map-range_with_len, fill_by_all}
use Rattle.std.proofs.lemmas.Option.{none-some, same_Some, slice_get-get_or}
use Rattle.kb_machine.specs.Lines.{numbered}
use Rattle.kb_book.specs.declared.versions.Life.{Life}
use Rattle.kb_book.specs.Lives.{is_in, most, numbers_from, IsWithin}

-- with the first line and without it
with_first : (k : ℕ) (life : Life) (lives : List Life) (place : ℕ) → is_in life place ≡ true
    → numbers_from k (life ∷ lives) place ≡ k ∷ numbers_from (suc k) lives place
with_first k life lives place is =
    let rest = numbers_from (suc k) lives place in
    ap (λ (b : Bool). if b then k ∷ rest else rest) is

without_first : (k : ℕ) (life : Life) (lives : List Life) (place : ℕ) → is_in life place ≡ false
    → numbers_from k (life ∷ lives) place ≡ numbers_from (suc k) lives place
without_first k life lives place is =
    let rest = numbers_from (suc k) lives place in
    ap (λ (b : Bool). if b then k ∷ rest else rest) is

-- a line more, which the version has
pub numbers_with : (k : ℕ) (lives : List Life) (life : Life) (place : ℕ) → is_in life place ≡ true
    → numbers_from k (lives ++ life ∷ []) place ≡ numbers_from k lives place ++ (k + length lives) ∷ []
numbers_with k [] life place is =
    let same : k ≡ k + 0 = omega arith in with_first k life [] place is ∙ ap (λ (n : ℕ). n ∷ []) same
numbers_with k (first ∷ lives) life place is =
    let last = k + length (first ∷ lives) in
    let same : suc k + length lives ≡ k + suc (length lives) = omega arith in
    let rest : numbers_from (suc k) (lives ++ life ∷ []) place ≡ numbers_from (suc k) lives place ++ last ∷ [] =
    numbers_with (suc k) lives life place is ∙ ap (λ (n : ℕ). numbers_from (suc k) lives place ++ n ∷ []) same in
    elim (cases_Bool (is_in first place)) [
      | inl has ↦ with_first k first (lives ++ life ∷ []) place has ∙ ap (λ (l : List ℕ). k ∷ l) rest
          ∙ sym (ap (λ (l : List ℕ). l ++ last ∷ []) (with_first k first lives place has))
      | inr lacks ↦ without_first k first (lives ++ life ∷ []) place lacks ∙ rest
          ∙ sym (ap (λ (l : List ℕ). l ++ last ∷ []) (without_first k first lives place lacks))
    ]

-- a line more, which the version doesn't have
pub numbers_without : (k : ℕ) (lives : List Life) (life : Life) (place : ℕ) → is_in life place ≡ false
    → numbers_from k (lives ++ life ∷ []) place ≡ numbers_from k lives place
numbers_without k [] life place is = without_first k life [] place is
numbers_without k (first ∷ lives) life place is =
    ap (λ (l : List ℕ). if is_in first place then k ∷ l else l) (numbers_without (suc k) lives life place is)

-- the first lines, and one more
pub next_with : (lives : List Life) (index : ℕ) (d : Life) (place : ℕ) → index < length lives → is_in (get_or lives index d) place ≡ true
    → numbers_from 1 (take (index + 1) lives) place ≡ numbers_from 1 (take index lives) place ++ (index + 1) ∷ []
next_with lives index d place within is =
    let number : 1 + length (take index lives) ≡ index + 1 = omega (arith, length-take-le index lives (omega arith)) in
    ap (λ (l : List Life). numbers_from 1 l place) (take_more lives index d within)
    ∙ numbers_with 1 (take index lives) (get_or lives index d) place is
    ∙ ap (λ (n : ℕ). numbers_from 1 (take index lives) place ++ n ∷ []) number

pub next_without : (lives : List Life) (index : ℕ) (d : Life) (place : ℕ) → index < length lives → is_in (get_or lives index d) place ≡ false
    → numbers_from 1 (take (index + 1) lives) place ≡ numbers_from 1 (take index lives) place
next_without lives index d place within is =
    ap (λ (l : List Life). numbers_from 1 l place) (take_more lives index d within)
    ∙ numbers_without 1 (take index lives) (get_or lives index d) place is

-- the line at an index has this number, and is one of the version
pub record IsListed (k : ℕ) (lives : List Life) (place n : ℕ) : Type 0 where
  pub index : ℕ
  pub number : n ≡ k + index
  pub within : index < length lives
  pub has : (d : Life) → is_in (get_or lives index d) place ≡ true

later : (k : ℕ) (first : Life) (lives : List Life) (place n : ℕ) → IsListed (suc k) lives place n → IsListed k (first ∷ lives) place n
later k first lives place n one = record {
  index = suc one.index;
  number = omega (arith, one.number);
  within = omega (arith, one.within);
  has = one.has;
}

-- each number is that of a line which the version has
pub listed : (k : ℕ) (lives : List Life) (place at n : ℕ) → slice_get (numbers_from k lives place) at ≡ Some n → IsListed k lives place n
listed k [] place at n is = absurd (none-some n is)
listed k (first ∷ lives) place at n is =
    let P : List ℕ → Type 0 = λ l. slice_get l at ≡ Some n in
    elim (cases_Bool (is_in first place)) [
      | inl has ↦ headed (listed (suc k) lives place) at (subst P (with_first k first lives place has) is) has
      | inr lacks ↦ later k first lives place n (listed (suc k) lives place at n (subst P (without_first k first lives place lacks) is))
    ]
  where
    headed : ((at n : ℕ) → slice_get (numbers_from (suc k) lives place) at ≡ Some n → IsListed (suc k) lives place n)
        → (at : ℕ) → slice_get (k ∷ numbers_from (suc k) lives place) at ≡ Some n → is_in first place ≡ true → IsListed k (first ∷ lives) place n
    headed rest zero is has =
        let same : n ≡ k = sym (same_Some k n is) in
        record { index = 0; number = omega (arith, same); within = omega arith; has = λ d. has }
    headed rest (suc at) is has = later k first lives place n (rest at n is)

-- a line's life is another, but the version has the line as before
pub numbers_kept : (k : ℕ) (lives : List Life) (index : ℕ) (life : Life) (place : ℕ)
    → is_in life place ≡ is_in (get_or lives index life) place
    → numbers_from k (slice_set lives index life) place ≡ numbers_from k lives place
numbers_kept k [] index life place same = refl
numbers_kept k (first ∷ lives) zero life place same =
    let rest = numbers_from (suc k) lives place in
    ap (λ (b : Bool). if b then k ∷ rest else rest) same
numbers_kept k (first ∷ lives) (suc index) life place same =
    ap (λ (l : List ℕ). if is_in first place then k ∷ l else l) (numbers_kept (suc k) lives index life place same)

-- a line's life is another, and the version hasn't the line any more
pub numbers_less : (k : ℕ) (lives : List Life) (index : ℕ) (life : Life) (place at : ℕ) → is_in life place ≡ false
    → slice_get (numbers_from k lives place) at ≡ Some (k + index)
    → numbers_from k (slice_set lives index life) place ≡ remove (numbers_from k lives place) at
numbers_less k [] index life place at gone is = absurd (none-some (k + index) is)
numbers_less k (first ∷ lives) zero life place at gone is =
    let P : List ℕ → Type 0 = λ l. slice_get l at ≡ Some (k + 0) in
    elim (cases_Bool (is_in first place)) [
      | inl has ↦ without_first k life lives place gone ∙ headed at (subst P (with_first k first lives place has) is)
          ∙ sym (ap (λ (l : List ℕ). remove l at) (with_first k first lives place has))
      | inr lacks ↦ let one = listed (suc k) lives place at (k + 0) (subst P (without_first k first lives place lacks) is) in
          absurd (omega (arith, one.number))
    ]
  where
    headed : (at : ℕ) → slice_get (k ∷ numbers_from (suc k) lives place) at ≡ Some (k + 0)
        → numbers_from (suc k) lives place ≡ remove (k ∷ numbers_from (suc k) lives place) at
    headed zero is = refl
    headed (suc at) is = let one = listed (suc k) lives place at (k + 0) is in absurd (omega (arith, one.number))
numbers_less k (first ∷ lives) (suc index) life place at gone is =
    let P : List ℕ → Type 0 = λ l. slice_get l at ≡ Some (k + suc index) in
    elim (cases_Bool (is_in first place)) [
      | inl has ↦ with_first k first (slice_set lives index life) place has
          ∙ headed (numbers_less (suc k) lives index life place) at gone (subst P (with_first k first lives place has) is)
          ∙ sym (ap (λ (l : List ℕ). remove l at) (with_first k first lives place has))
      | inr lacks ↦ let same : k + suc index ≡ suc k + index = omega arith in
          without_first k first (slice_set lives index life) place lacks
          ∙ numbers_less (suc k) lives index life place at gone (subst P (without_first k first lives place lacks) is ∙ ap (λ (n : ℕ). Some n) same)
          ∙ sym (ap (λ (l : List ℕ). remove l at) (without_first k first lives place lacks))
    ]
  where
    headed : ((at : ℕ) → is_in life place ≡ false → slice_get (numbers_from (suc k) lives place) at ≡ Some (suc k + index)
        → numbers_from (suc k) (slice_set lives index life) place ≡ remove (numbers_from (suc k) lives place) at)
        → (at : ℕ) → is_in life place ≡ false → slice_get (k ∷ numbers_from (suc k) lives place) at ≡ Some (k + suc index)
        → k ∷ numbers_from (suc k) (slice_set lives index life) place ≡ remove (k ∷ numbers_from (suc k) lives place) at
    headed less zero gone is = let same = same_Some k (k + suc index) is in absurd (omega (arith, same))
    headed less (suc at) gone is =
        let same : k + suc index ≡ suc k + index = omega arith in
        ap (λ (l : List ℕ). k ∷ l) (less at gone (is ∙ ap (λ (n : ℕ). Some n) same))

-- what is live isn't gone, so that earlier versions have it as before when it goes
not_gone : (count place : ℕ) (life : Life) → IsWithin count life → nat_lt count life.gone ≡ true → place < count
    → nat_lt place life.gone ≡ true
not_gone count place life within is earlier =
    let less = ltb-true count life.gone is in lt-ltb place life.gone (omega arith)

pub goes_now : (count born : ℕ) (old : Life) (place : ℕ) → IsWithin count old → is_in old count ≡ true → born ≡ old.born → place < count
    → is_in (record { born = born; gone = count }) place ≡ is_in old place
goes_now count born old place within is same earlier =
    let parts = and_parts (nat_le old.born count) (nat_lt count old.gone) is in
    let here : nat_lt place old.gone ≡ true = not_gone count place old within parts.1 earlier in
    let there : nat_lt place count ≡ true = lt-ltb place count earlier in
    ap (λ (n : ℕ). nat_le n place && nat_lt place count) same ∙ ap (λ (b : Bool). nat_le old.born place && b) (there ∙ sym here)

pub is_gone : (count born : ℕ) → is_in (record { born = born; gone = count }) count ≡ false
is_gone count born = and_right (nat_le born count) (nat_lt count count) (le-ltb count count (omega arith))

-- a version more has the same lines
one_more : (count : ℕ) (life : Life) → count < most → IsWithin count life → is_in life (count + 1) ≡ is_in life count
one_more count life fits within =
    let born : nat_le life.born (count + 1) ≡ nat_le life.born count =
    le-leb life.born (count + 1) (omega (arith, within.born)) ∙ sym (le-leb life.born count within.born) in
    let gone : nat_lt (count + 1) life.gone ≡ nat_lt count life.gone = elim within.gone [
      | inl went ↦ le-ltb (count + 1) life.gone (omega arith) ∙ sym (le-ltb count life.gone went)
      | inr lives ↦ lt-ltb (count + 1) life.gone (omega arith) ∙ sym (lt-ltb count life.gone (omega arith))
    ] in
    cc (born, gone)

pub numbers_later : (k : ℕ) (lives : List Life) (count : ℕ) → count < most → All (IsWithin count) lives
    → numbers_from k lives (count + 1) ≡ numbers_from k lives count
numbers_later k [] count fits all = refl
numbers_later k (first ∷ lives) count fits all =
    let rest = numbers_later (suc k) lives count fits (λ i d within. all (suc i) d (omega arith)) in
    let same = one_more count first fits (all 0 first (omega arith)) in
    ap (λ (b : Bool). if b then k ∷ numbers_from (suc k) lives (count + 1) else numbers_from (suc k) lives (count + 1)) same
    ∙ ap (λ (l : List ℕ). if is_in first count then k ∷ l else l) rest

-- the earlier versions stay, where each of them has the same lines
pub published_kept : (f g : ℕ → List ℕ) (count : ℕ) → ((place : ℕ) → place < count → f place ≡ g place)
    → map f (range_with_len 0 count) ≡ map g (range_with_len 0 count)
published_kept f g count same =
    fill_by_all g (map f (range_with_len 0 count)) count [] (length-map-range_with_len f 0 count)
    (λ place within. get_or-map-range_with_len f 0 count place place [] within (omega arith) ∙ same place within)

-- the version with a number
pub version_numbered : (f : ℕ → List ℕ) (count version : ℕ) (found : List ℕ) → 0 < version → version ≤ count → found ≡ f (version - 1)
    → numbered (map f (range_with_len 0 count)) version ≡ Some found
version_numbered f count zero found positive within is = absurd (omega arith)
version_numbered f count (suc place) found positive within is =
    let same : suc place - 1 ≡ place = omega arith in
    let fits : place < length (map f (range_with_len 0 count)) = omega (arith, length-map-range_with_len f 0 count) in
    slice_get-get_or (map f (range_with_len 0 count)) place [] fits
    ∙ ap (λ (l : List ℕ). Some l) (get_or-map-range_with_len f 0 count place place [] (omega arith) (omega arith) ∙ sym (is ∙ ap f same))

-- a line that comes now is in no earlier version
pub comes_now : (count place : ℕ) → place < count → is_in (record { born = count; gone = suc most }) place ≡ false
comes_now count place earlier = and_left (nat_le count place) (nat_lt place (suc most)) (lt-leb count place earlier)

pub is_there : (count : ℕ) → count ≤ most → is_in (record { born = count; gone = suc most }) count ≡ true
is_there count fits =
    and_from (nat_le count count) (nat_lt count (suc most)) (le-leb count count (omega arith)) (lt-ltb count (suc most) (omega arith))
