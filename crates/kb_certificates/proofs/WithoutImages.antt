-- Accepted words without an image.
use Rattle.std.proofs.Common.{◌≡◌, ◌↔◌, ℕ, ◌+◌, ◌<◌, ◌≤◌, Bool, not, List, [], ◌∷◌, zero, suc, Some, add-one, refl, sym, ap, ◌∙◌, subst, inl, inr, arith}
use Rattle.std.proofs.lemmas.Bool.{and_from, and_parts, cases_lt, cases_Bool, not-true, not_from_false, false_from_ne_true, true≢false}
use Rattle.std.proofs.lemmas.Option.{none-some, same_Some}
use Rattle.kb_word.specs.Words.{Pair as Sides}
use Rattle.kb_word.specs.Relations.{IsOver}
use Rattle.kb_word.specs.declared.word_order.WordOrder.{WordOrder}
use Rattle.kb_fsa.specs.Table.{Table, after, is_accepting, state_after, step}
use Rattle.kb_fsa.specs.Language.{Automaton, IsAutomaton, AcceptsText, generators}
use Rattle.kb_fsa.specs.Counted.{CountedExists}
use Rattle.kb_fsadet.specs.Projection.{HasSecond, IsProjection}
use Rattle.kb_leastpair.specs.LeastPair.{IsLeastWord}
use Rattle.kb_structure.specs.Structure.{Structure, Accepts, Multiplies}
use Rattle.kb_structure.specs.StructureOf.{FitTogether, OfAutomata, multiplier_of, structure_of}
use Rattle.kb_structure.specs.Certificates.{WordWithoutImage}
use Rattle.kb_structure.proofs.OfAutomata.{accepts_word, multiplied_pair, pair_multiplied}
use Rattle.kb_draw.specs.First.{AllLack}
use Rattle.kb_certificates.specs.Cascade.{AcceptsLed, IsLeastLed, followed}
use Rattle.kb_certificates.specs.declared.image.Images.TheVariants.{Lacking, TooManyStates}
use Rattle.kb_certificates.specs.First.{IsFirstWord, NoneCountedUpTo}
use Rattle.kb_certificates.specs.Images.{AreGivenBefore, GivesImages, HasImagesUpTo, ImagesSay, IsFirstCounted}
use Rattle.kb_certificates.specs.Followers.{other_state}
use Rattle.kb_certificates.proofs.Leasts.{least_word_led}

-- along a word the other automaton goes along it
other_run : (table other : Table) (state beside : ℕ) (word : List ℕ)
    → followed table (other_state table other) state beside word ≡ after other beside word
other_run table other state beside [] = refl
other_run table other state beside (a ∷ word) = other_run table other (step table state a) (step other beside a) word

module _ (order : WordOrder) (relations : List Sides) (acceptor : Automaton) (multipliers : List Automaton)
    (fit : FitTogether acceptor multipliers) (is : IsAutomaton acceptor) (x : ℕ) (multiplier : Automaton)
    (at : multiplier_of multipliers x ≡ Some multiplier) (images : Automaton) (projects : IsProjection multiplier images) where
  abbrev n : ℕ
  n = generators acceptor.alphabet

  abbrev structure : Structure
  structure = structure_of order relations acceptor multipliers

  abbrev means : (w : List ℕ) → Accepts structure w ↔ AcceptsText acceptor w
  means w = accepts_word order relations acceptor multipliers fit.words is w

  same_generators : generators multiplier.alphabet ≡ n
  same_generators = ap generators (fit.pairs x multiplier at)

  abbrev Led : List ℕ → Type 0
  Led word = AcceptsLed acceptor.table (other_state acceptor.table images.table) word

  abbrev accepts : List ℕ → Bool
  accepts word = is_accepting acceptor.table (state_after acceptor.table word)

  abbrev has_image : List ℕ → Bool
  has_image word = is_accepting images.table
      (followed acceptor.table (other_state acceptor.table images.table) acceptor.table.initial images.table.initial word)

  has_image_is : (word : List ℕ) → is_accepting images.table (state_after images.table word) ≡ has_image word
  has_image_is word = ap (is_accepting images.table) (sym (other_run acceptor.table images.table acceptor.table.initial images.table.initial word))

  second_of : (word v : List ℕ) → Multiplies structure x word v → HasSecond multiplier word
  second_of word v multiplies =
      let P : ℕ → Type 0 = λ k. IsOver k word in
      let Q : ℕ → Type 0 = λ k. IsOver k v in record {
        second = v;
        first_over = subst P (sym same_generators) multiplies.first_letters;
        second_over = subst Q (sym same_generators) multiplies.second_letters;
        accepts = multiplied_pair order relations acceptor multipliers x multiplier at word v multiplies;
      }

  image_of : (word : List ℕ) (has : HasSecond multiplier word) → Multiplies structure x word has.second
  image_of word has =
      let P : ℕ → Type 0 = λ k. IsOver k word in
      let Q : ℕ → Type 0 = λ k. IsOver k has.second in
      pair_multiplied order relations acceptor multipliers x multiplier at word has.second
      (subst P same_generators has.first_over) (subst Q same_generators has.second_over) has.accepts

  pub led_without : (0 < x) × (x ≤ n) → (word : List ℕ) → Led word ↔ WordWithoutImage structure x word
  led_without letter word = (forth, back)
    where
      forth : Led word → WordWithoutImage structure x word
      forth led =
          let both = and_parts (accepts word) (not (has_image word)) led in record {
            generator = letter;
            accepted = (means word).1 both.0;
            no_image = λ v multiplies.
                let yes = (projects word).1 (second_of word v multiplies) in
                true≢false (sym (sym (has_image_is word) ∙ yes) ∙ not-true (has_image word) both.1);
          }

      back : WordWithoutImage structure x word → Led word
      back certificate =
          and_from (accepts word) (not (has_image word)) ((means word).0 certificate.accepted)
          (not_from_false (has_image word) (false_from_ne_true (has_image word) (λ yes.
          let has = (projects word).0 (has_image_is word ∙ yes) in
          certificate.no_image has.second (image_of word has))))

  pub least_without : (0 < x) × (x ≤ n) → (word : List ℕ) → IsLeastLed acceptor.table (other_state acceptor.table images.table) word
      → IsLeastWord (WordWithoutImage structure x) word
  least_without letter =
      least_word_led acceptor.table (other_state acceptor.table images.table) (WordWithoutImage structure x) (led_without letter)

  pub none_without : ((word : List ℕ) → ¬ Led word) → (word : List ℕ) → ¬ WordWithoutImage structure x word
  none_without none word certificate = none word ((led_without certificate.generator word).1 certificate)

  -- where no word is led so, each accepted word has an image
  pub given_image : ((word : List ℕ) → ¬ Led word) → (word : List ℕ) → Accepts structure word → (v : List ℕ) × Multiplies structure x word v
  given_image none word accepted = elim (cases_Bool (has_image word)) [
    | inl given ↦ let has = (projects word).0 (has_image_is word ∙ given) in (has.second, image_of word has)
    | inr lacking ↦ absurd (none word (and_from (accepts word) (not (has_image word)) ((means word).0 accepted) (not_from_false (has_image word) lacking)))
  ]

-- ---- from place to place

module _ (acceptor : Automaton) (multipliers : List Automaton) (limit : ℕ) where
  -- where each place before this one gives images
  pub all_given : (place : ℕ) → AllLack place (GivesImages acceptor multipliers limit) → AreGivenBefore acceptor multipliers limit place
  all_given place each = record { images = given; few = counted }
    where
      given : OfAutomata acceptor multipliers (λ structure. HasImagesUpTo structure place)
      given order relations zero u letter low accepted = absurd (let some = letter.0 in let no : ⊥ = omega (arith, some) in no)
      given order relations (suc y) u letter low accepted =
          let P : ℕ → Type 0 = λ x. (v : List ℕ) × Multiplies (structure_of order relations acceptor multipliers) x u v in
          subst P (add-one y) ((each y (omega (arith, low))).images order relations u accepted)

      counted : NoneCountedUpTo multipliers limit place
      counted zero multiplier low at = absurd (none-some multiplier at)
      counted (suc y) multiplier low at = (each y (omega (arith, low))).few multiplier (ap (multiplier_of multipliers) (add-one y) ∙ at)

  -- there is no word without an image up to the place
  pub none_lacking : (place : ℕ) → AreGivenBefore acceptor multipliers limit place
      → OfAutomata acceptor multipliers (λ structure. (y : ℕ) (u : List ℕ) → y ≤ place → ¬ WordWithoutImage structure y u)
  none_lacking place before order relations y u low certificate =
      let image = before.images order relations y u certificate.generator low certificate.accepted in
      certificate.no_image image.0 image.1

  module _ (place : ℕ) (multiplier : Automaton) (at : multiplier_of multipliers (place + 1) ≡ Some multiplier) where
    -- the multiplier of the place is this one
    pub few_here : ¬ CountedExists multiplier limit → (other : Automaton) → multiplier_of multipliers (place + 1) ≡ Some other
        → ¬ CountedExists other limit
    few_here few other is counted =
        let P : Automaton → Type 0 = λ one. CountedExists one limit in
        few (subst P (same_Some other multiplier (sym is ∙ at)) counted)

    pub few_up_to : NoneCountedUpTo multipliers limit place → ¬ CountedExists multiplier limit
        → NoneCountedUpTo multipliers limit (place + 1)
    few_up_to before few y other low is counted = elim (cases_lt place y) [
      | inl above ↦
          let same : y ≡ place + 1 = omega arith in
          few_here few other (ap (multiplier_of multipliers) (sym same) ∙ is) counted
      | inr within ↦ before y other within is counted
    ]

    pub first_lacking : AreGivenBefore acceptor multipliers limit place → ¬ CountedExists multiplier limit → (x : ℕ) → x ≡ place + 1
        → (word : List ℕ) → OfAutomata acceptor multipliers (λ structure. IsLeastWord (WordWithoutImage structure (place + 1)) word)
        → ImagesSay acceptor multipliers limit (Lacking x word)
    first_lacking before few x number word least =
        let C : ℕ → Type 0 = λ y. NoneCountedUpTo multipliers limit y in (
          λ order relations.
              let Q : ℕ → Type 0 = λ y. IsFirstWord (WordWithoutImage (structure_of order relations acceptor multipliers)) y word in
              subst Q (sym number) (record {
                no_earlier = λ y u less. none_lacking place before order relations y u (omega (arith, less));
                least = least order relations;
              }),
          subst C (sym number) (few_up_to before.few few),
        )

    pub first_counted : AreGivenBefore acceptor multipliers limit place → CountedExists multiplier limit → (x : ℕ) → x ≡ place + 1
        → ImagesSay acceptor multipliers limit (TooManyStates x)
    first_counted before counted x number =
        let P : ℕ → Type 0 = λ y. IsFirstCounted acceptor multipliers limit y in
        subst P (sym number) (record {
          multiplier = multiplier;
          is_multiplier = at;
          counted = counted;
          few = λ y other less. before.few y other (omega (arith, less));
          images = λ order relations y u less. none_lacking place before order relations y u (omega (arith, less));
        })
