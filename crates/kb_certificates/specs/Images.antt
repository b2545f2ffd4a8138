-- Whether each accepted word has an image under each generator, and what is counted on the way.
use Rattle.std.specs.Prelude.{◌≡◌, ℕ, ◌+◌, ◌<◌, ◌≤◌, List, length, Some}
use Rattle.kb_fsa.specs.Language.{Automaton}
use Rattle.kb_fsa.specs.Counted.{CountedExists}
use Rattle.kb_structure.specs.Structure.{Structure, IsGenerator, Accepts, Multiplies}
use Rattle.kb_structure.specs.StructureOf.{multiplier_of, OfAutomata}
use Rattle.kb_structure.specs.Certificates.{WordWithoutImage, HasImages}
use Rattle.kb_certificates.specs.declared.image.Images.{Images}
use Rattle.kb_certificates.specs.declared.image.Images.TheVariants.{Given, Lacking, TooManyStates}
use Rattle.kb_certificates.specs.First.{IsFirstWord, NoneCountedUpTo}

-- each accepted word has images under the generators up to this one
abbrev pub HasImagesUpTo : Structure → ℕ → Type 0
HasImagesUpTo structure most = (x : ℕ) (u : List ℕ) → IsGenerator structure x → x ≤ most
    → Accepts structure u
    → (v : List ℕ) × Multiplies structure x u v

-- The first words of the generator's multiplier have more sets of states than the limit. Those of no earlier
-- generator's have, and under these each accepted word has an image.
pub record IsFirstCounted (acceptor : Automaton) (multipliers : List Automaton) (limit x : ℕ)
    : Type 0 where
  pub multiplier : Automaton
  pub is_multiplier : multiplier_of multipliers x ≡ Some multiplier
  pub counted : CountedExists multiplier limit
  pub few : (y : ℕ) (other : Automaton) → y < x → multiplier_of multipliers y ≡ Some other
      → ¬ CountedExists other limit
  pub images : OfAutomata acceptor multipliers (λ structure. (y : ℕ) (u : List ℕ) → y < x
      → ¬ WordWithoutImage structure y u)

-- Each accepted word has an image under the generator of the place, which is the one after it, and the first words of
-- its multiplier have no more sets of states than the limit.
pub record GivesImages (acceptor : Automaton) (multipliers : List Automaton) (limit place : ℕ)
    : Type 0 where
  pub images : OfAutomata acceptor multipliers (λ structure. (u : List ℕ) → Accepts structure u
      → (v : List ℕ) × Multiplies structure (place + 1) u v)
  pub few : (multiplier : Automaton) → multiplier_of multipliers (place + 1) ≡ Some multiplier
      → ¬ CountedExists multiplier limit

-- the same of all places before this one
pub record AreGivenBefore (acceptor : Automaton) (multipliers : List Automaton) (limit place : ℕ)
    : Type 0 where
  pub images : OfAutomata acceptor multipliers (λ structure. HasImagesUpTo structure place)
  pub few : NoneCountedUpTo multipliers limit place

-- what each answer says
abbrev pub ImagesSay : Automaton → List Automaton → ℕ → Images → Type 0
ImagesSay acceptor multipliers limit Given =
    OfAutomata acceptor multipliers HasImages
    × NoneCountedUpTo multipliers limit (length multipliers)
ImagesSay acceptor multipliers limit (Lacking x word) =
    OfAutomata acceptor multipliers
    (λ structure. IsFirstWord (WordWithoutImage structure) x word)
    × NoneCountedUpTo multipliers limit x
ImagesSay acceptor multipliers limit (TooManyStates x) =
    IsFirstCounted acceptor multipliers limit x
