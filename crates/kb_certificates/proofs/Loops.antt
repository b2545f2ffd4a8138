-- From generator to generator, until one has a certificate.
use Rattle.std.proofs.Common.{◌≡◌, ℕ, zero, suc, ◌+◌, ◌<◌, ◌≤◌, List, length, get_or, Option, Some, None, sym, ap, ◌∙◌, subst, add-one, arith}
use Rattle.std.specs.Prelude.{Result, Ok, Err, IfOk, IfSome, IfNone}
use Rattle.std.proofs.lemmas.Option.{slice_get_read, slice_get_within}
use Rattle.kb_fsa.specs.declared.alphabet.Alphabet.TheVariants.{Pair}
use Rattle.kb_fsa.specs.Language.{Automaton, generators}
use Rattle.kb_structure.specs.StructureOf.{FitTogether, multiplier_of}
use Rattle.kb_word.specs.declared.memory.Memory.{Memory}
use Rattle.kb_draw.specs.First.{AllLack}
use Rattle.kb_certificates.specs.First.{IsFirstPair, IsFirstTriple, IsFirstWord, NoPairUpTo, NoTripleUpTo, NoneUpTo}
use Rattle.kb_certificates.specs.Places.{HasWord, LacksWord, HasPair, LacksPair, HasTriple, LacksTriple}

-- the multiplier at a place is that of the next number
pub multiplier_at : (multipliers : List Automaton) (place : ℕ) (multiplier : Automaton) → place < length multipliers
    → multiplier ≡ get_or multipliers place multiplier → multiplier_of multipliers (place + 1) ≡ Some multiplier
multiplier_at multipliers place multiplier within is =
    ap (multiplier_of multipliers) (add-one place) ∙ slice_get_read multipliers (length multipliers) place multiplier (let r : length multipliers ≡ length multipliers = omega arith in r) within is

-- ---- from places to generators

module _ (Certificate : ℕ → List ℕ → Type 0) (letter : (x : ℕ) (u : List ℕ) → Certificate x u → 0 < x) where
  pub none_up_to : (place : ℕ) → AllLack place (LacksWord Certificate) → NoneUpTo Certificate place
  none_up_to place each zero u low certificate = absurd (let some = letter zero u certificate in let no : ⊥ = omega (arith, some) in no)
  none_up_to place each (suc y) u low certificate =
      let P : ℕ → Type 0 = λ x. Certificate x u in
      each y (omega (arith, low)) u (subst P (sym (add-one y)) certificate)

  pub first_word : (place x : ℕ) (u : List ℕ) → AllLack place (LacksWord Certificate) → HasWord Certificate place x u
      → IsFirstWord Certificate x u
  first_word place x u each has =
      let number = has.number in
      let Q : ℕ → Type 0 = λ y. IsFirstWord Certificate y u in
      subst Q (sym number) (record {
        no_earlier = λ y v less. none_up_to place each y v (omega (arith, less));
        least = has.least;
      })

module _ (Certificate : ℕ → List ℕ → List ℕ → Type 0) (letter : (x : ℕ) (u v : List ℕ) → Certificate x u v → 0 < x) where
  pub no_pair_up_to : (place : ℕ) → AllLack place (LacksPair Certificate) → NoPairUpTo Certificate place
  no_pair_up_to place each zero u v low certificate = absurd (let some = letter zero u v certificate in let no : ⊥ = omega (arith, some) in no)
  no_pair_up_to place each (suc y) u v low certificate =
      let P : ℕ → Type 0 = λ x. Certificate x u v in
      each y (omega (arith, low)) u v (subst P (sym (add-one y)) certificate)

  pub first_pair : (place x : ℕ) (u v : List ℕ) → AllLack place (LacksPair Certificate) → HasPair Certificate place x u v
      → IsFirstPair Certificate x u v
  first_pair place x u v each has =
      let number = has.number in
      let Q : ℕ → Type 0 = λ y. IsFirstPair Certificate y u v in
      subst Q (sym number) (record {
        no_earlier = λ y first second less. no_pair_up_to place each y first second (omega (arith, less));
        least = has.least;
      })

module _ (Certificate : ℕ → List ℕ → List ℕ → List ℕ → Type 0)
    (letter : (x : ℕ) (u v w : List ℕ) → Certificate x u v w → 0 < x) where
  pub no_triple_up_to : (place : ℕ) → AllLack place (LacksTriple Certificate) → NoTripleUpTo Certificate place
  no_triple_up_to place each zero u v w low certificate =
      absurd (let some = letter zero u v w certificate in let no : ⊥ = omega (arith, some) in no)
  no_triple_up_to place each (suc y) u v w low certificate =
      let P : ℕ → Type 0 = λ x. Certificate x u v w in
      each y (omega (arith, low)) u v w (subst P (sym (add-one y)) certificate)

  pub first_triple : (place x : ℕ) (u v w : List ℕ) → AllLack place (LacksTriple Certificate) → HasTriple Certificate place x u v w
      → IsFirstTriple Certificate x u v w
  first_triple place x u v w each has =
      let number = has.number in
      let Q : ℕ → Type 0 = λ y. IsFirstTriple Certificate y u v w in
      subst Q (sym number) (record {
        no_earlier = λ y a b c less. no_triple_up_to place each y a b c (omega (arith, less));
        least = has.least;
      })

-- ---- what is found, said otherwise

pub found_as : {A : Type 0} {P Q : A → Type 0} (answer : Result (Option A) Memory) → IfOk answer (λ found. IfSome found P)
    → ((a : A) → P a → Q a) → IfOk answer (λ found. IfSome found Q)
found_as (Ok (Some a)) holds turn = turn a holds
found_as (Ok None) holds turn = tt
found_as (Err e) holds turn = tt

pub none_as : {A : Type 0} {P Q : Type 0} (answer : Result (Option A) Memory) → IfOk answer (λ found. IfNone found P)
    → (P → Q) → IfOk answer (λ found. IfNone found Q)
none_as (Ok (Some a)) holds turn = tt
none_as (Ok None) holds turn = turn holds
none_as (Err e) holds turn = tt

-- ---- multipliers

-- a multiplier's number is no greater than how many there are
pub multiplier_within : (multipliers : List Automaton) (x : ℕ) (multiplier : Automaton) → multiplier_of multipliers x ≡ Some multiplier
    → x ≤ length multipliers
multiplier_within multipliers zero multiplier at = omega arith
multiplier_within multipliers (suc place) multiplier at = omega (arith, slice_get_within multipliers place multiplier at)

-- what an automaton of pairs reads
pub own_pairs : (acceptor : Automaton) (multipliers : List Automaton) → FitTogether acceptor multipliers → (x : ℕ) (multiplier : Automaton)
    → multiplier_of multipliers x ≡ Some multiplier → multiplier.alphabet ≡ Pair (generators multiplier.alphabet)
own_pairs acceptor multipliers fit x multiplier at =
    let pairs = fit.pairs x multiplier at in pairs ∙ ap (λ n. Pair n) (sym (ap generators pairs))

pub own_generators : (acceptor : Automaton) (multipliers : List Automaton) → FitTogether acceptor multipliers → (x : ℕ) (multiplier : Automaton)
    → multiplier_of multipliers x ≡ Some multiplier → generators acceptor.alphabet ≡ generators multiplier.alphabet
own_generators acceptor multipliers fit x multiplier at = sym (ap generators (fit.pairs x multiplier at))
