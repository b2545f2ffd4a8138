-- The automata of the differences of a reduced complete system are a sound structure.
use Rattle.std.proofs.Common.{◌≡◌, ℕ, zero, suc, ◌<◌, ◌≤◌, IsTrue, List, [], ◌∷◌, ◌++◌, length, slice_get, Option, Some, None, refl, sym, ap, subst, true≢false, arith}
use Rattle.std.specs.List.{Contains}
use Rattle.std.proofs.lemmas.Option.{none-some}
use Rattle.kb_word.specs.Words.{Pair, OneOf}
use Rattle.kb_word.specs.WordOrders.{Below}
use Rattle.kb_word.specs.Relations.{IsOver}
use Rattle.kb_word.specs.Rewriting.{IsIrreducible, NormalForm}
use Rattle.kb_word.specs.declared.presentation.Presentation.{Presentation}
use Rattle.kb_word.specs.declared.word_order.WordOrder.TheVariants.{ShortLex}
use Rattle.kb_word.proofs.PathLemmas.{congruent_symmetric, congruent_transitive}
use Rattle.kb_fsa.specs.declared.alphabet.Alphabet.TheVariants.{Plain}
use Rattle.kb_fsa.specs.Language.{AcceptsPair, Automaton, generators}
use Rattle.kb_diff.specs.Groups.{group_of}
use Rattle.kb_diff.specs.Differences.{HaveDifferences}
use Rattle.kb_diff.specs.Languages.{IsDifferenceAcceptor}
use Rattle.kb_diff.specs.Steps.{Leads}
use Rattle.kb_diffwa.specs.Multipliers.{AreMultipliers, IsMultiplied, IsMultiplier}
use Rattle.kb_reduced.specs.Reduced.{IsReducedComplete}
use Rattle.kb_structure.specs.Structure.{Structure, Accepts, IsGenerator, IsProduct, IsRepresentative, Multiplies}
use Rattle.kb_structure.specs.StructureOf.{accepts_pair, multiplier_of, structure_of}
use Rattle.kb_structure.proofs.Letters.{over_empty, over_front, over_last}
use Rattle.kb_structure.proofs.OfAutomata.{multiplied_pair, pair_multiplied}
use Rattle.kb_structure.proofs.Representatives.{prefix_representative}
use Rattle.kb_structure.proofs.Words.{congruent_behind}
use Rattle.kb_round.proofs.Elements.{AreSame, IsCompleteGroup, has_normal, irreducible_of_least, least_of_irreducible, relations, same_as_normal, same_over}
use Rattle.kb_round.proofs.Leading.{leads_differs}
use Rattle.kb_round.proofs.KeptDifferences.{kept_of_differences, leads_where_kept}
use Rattle.kb_round.proofs.LeastWords.{accepted_irreducible, irreducible_accepted}
use Rattle.kb_round.proofs.GeneratorForms.{generator_kept}
use Rattle.kb_round.proofs.Extensions.{extension_leads}
use Rattle.kb_round.proofs.SoundStructures.{IsSound}

item_at : {X : Type 0} (xs : List X) (place : ℕ) → place < length xs → (x : X) × (slice_get xs place ≡ Some x)
item_at [] place within = absurd (let no : ⊥ = omega arith in no)
item_at (x ∷ xs) zero within = (x, refl)
item_at (x ∷ xs) (suc place) within = item_at xs place (omega arith)

-- each generator has a multiplier
generator_multiplier : (multipliers : List Automaton) (x : ℕ) → 0 < x → x ≤ length multipliers
    → (multiplier : Automaton) × (multiplier_of multipliers x ≡ Some multiplier)
generator_multiplier multipliers zero positive within = absurd (let no : ⊥ = omega arith in no)
generator_multiplier multipliers (suc place) positive within = item_at multipliers place (omega arith)

-- what accepts a pair is a multiplier
pair_multiplier : (found : Option Automaton) (u v : List ℕ) → IsTrue (accepts_pair found u v)
    → (multiplier : Automaton) × (found ≡ Some multiplier)
pair_multiplier None u v accepts = absurd (true≢false (sym accepts))
pair_multiplier (Some multiplier) u v accepts = (multiplier, refl)

module _ (presentation : Presentation) (rules : List Pair) (is : IsCompleteGroup presentation rules)
    (shortlex : presentation.order ≡ ShortLex) (reduced : IsReducedComplete (Below presentation.order) (relations presentation) rules)
    (words : List (List ℕ)) (has_empty : Contains words [])
    (kept : (rule : Pair) → OneOf rules rule → HaveDifferences (group_of presentation rules) words rule.0 rule.1)
    (acceptor : Automaton) (multipliers : List Automaton) (alphabet : acceptor.alphabet ≡ Plain presentation.n)
    (language : IsDifferenceAcceptor (group_of presentation rules) words acceptor)
    (multiply : AreMultipliers (group_of presentation rules) words acceptor presentation.n multipliers) where
  abbrev structure : Structure
  structure = structure_of presentation.order (relations presentation) acceptor multipliers

  number : generators acceptor.alphabet ≡ presentation.n
  number = ap generators alphabet

  over : (w : List ℕ) → IsOver structure.n w → IsOver presentation.n w
  over w letters = let P : ℕ → Type 0 = λ n. IsOver n w in subst P number letters

  over_back : (w : List ℕ) → IsOver presentation.n w → IsOver structure.n w
  over_back w letters = let P : ℕ → Type 0 = λ n. IsOver n w in subst P (sym number) letters

  letter : (x : ℕ) → IsGenerator structure x → (0 < x) × (x ≤ presentation.n)
  letter x generator = let P : ℕ → Type 0 = λ n. (0 < x) × (x ≤ n) in subst P number generator

  -- ---- exactly the least words are accepted

  pub accepts_irreducible : (w : List ℕ) → Accepts structure w → IsIrreducible (OneOf rules) w
  accepts_irreducible w accepts =
      let both = language w in accepted_irreducible presentation rules is words kept w (both.0 accepts.accepted)

  irreducible_accepts : (w : List ℕ) → IsOver presentation.n w → IsIrreducible (OneOf rules) w → Accepts structure w
  irreducible_accepts w letters irreducible =
      let both = language w in record {
        letters = over_back w letters;
        accepted = both.1 (irreducible_accepted presentation rules is words w letters irreducible);
      }

  representative : (w : List ℕ) → Accepts structure w → IsRepresentative structure w
  representative w accepts = record {
    letters = accepts.letters;
    least = least_of_irreducible presentation rules is w (accepts_irreducible w accepts);
  }

  representative_accepts : (w : List ℕ) → IsRepresentative structure w → Accepts structure w
  representative_accepts w least =
      irreducible_accepts w (over w least.letters) (irreducible_of_least presentation rules is w least.least)

  -- ---- multipliers

  -- the multiplier of x is that of the differences
  is_multiplier : (x : ℕ) (multiplier : Automaton) → multiplier_of multipliers x ≡ Some multiplier
      → IsMultiplier (group_of presentation rules) words acceptor x multiplier
  is_multiplier zero multiplier at = absurd (none-some multiplier at)
  is_multiplier (suc place) multiplier at = multiply.languages place multiplier at

  multiplied : (x : ℕ) (u v : List ℕ) → Multiplies structure x u v → IsMultiplied (group_of presentation rules) words acceptor x u v
  multiplied x u v multiplies =
      let found = pair_multiplier (multiplier_of multipliers x) u v multiplies.accepted in
      let pair : AcceptsPair found.0 u v =
      multiplied_pair presentation.order (relations presentation) acceptor multipliers x found.0 found.1 u v multiplies in
      let both = is_multiplier x found.0 found.1 u v (over u multiplies.first_letters) (over v multiplies.second_letters) in
      both.0 pair

  -- accepted words that lead to the normal form of a generator are a pair of its multiplier
  leads_multiplies : (x : ℕ) (u v f : List ℕ) → IsGenerator structure x → Accepts structure u → Accepts structure v
      → NormalForm rules (x ∷ []) f → Leads (group_of presentation rules) words [] u v f → Multiplies structure x u v
  leads_multiplies x u v f generator first second normal leads =
      let at = letter x generator in
      let found = generator_multiplier multipliers x at.0 (omega (arith, at.1, multiply.one_each)) in
      let both = is_multiplier x found.0 found.1 u v (over u first.letters) (over v second.letters) in
      let pair : AcceptsPair found.0 u v =
      both.1 (record { first = first.accepted; second = second.accepted; end = f; normal = normal; leads = leads }) in
      pair_multiplied presentation.order (relations presentation) acceptor multipliers x found.0 found.1 u v first.letters second.letters pair

  product : (x : ℕ) (u v : List ℕ) → IsGenerator structure x → Multiplies structure x u v → IsProduct structure x u v
  product x u v generator multiplies =
      let pair = multiplied x u v multiplies in
      let differs : AreSame presentation (u ++ pair.end) v =
      leads_differs presentation rules is words u v [] pair.end (over u multiplies.first_letters) (over v multiplies.second_letters) pair.leads in
      let form = congruent_behind u (same_as_normal presentation rules is (x ∷ []) pair.end pair.normal) in
      record {
        first = representative u (record { letters = multiplies.first_letters; accepted = pair.first });
        second = representative v (record { letters = multiplies.second_letters; accepted = pair.second });
        equal = congruent_transitive form differs;
      }

  extension : (x : ℕ) (u : List ℕ) → IsGenerator structure x → Accepts structure (u ++ x ∷ []) → Multiplies structure x u (u ++ x ∷ [])
  extension x u generator accepts =
      let n = presentation.n in
      let whole = over (u ++ x ∷ []) accepts.letters in
      let alone = over_last n [] x (over_empty n) (letter x generator) in
      let first = representative_accepts u (prefix_representative structure u (x ∷ []) (representative (u ++ x ∷ []) accepts)) in
      let normal = has_normal presentation rules is (x ∷ []) in
      leads_multiplies x u (u ++ x ∷ []) normal.0 generator first accepts normal.1
      (extension_leads presentation rules is words has_empty x
      (λ f form. generator_kept presentation rules is shortlex reduced words has_empty kept x f alone form)
      u (over_front n u (x ∷ []) whole) normal.0 whole normal.1)

  pub made_sound : IsSound structure
  made_sound = record {
    acceptor = λ w. (representative w, representative_accepts w);
    products = product;
    extends = extension;
  }

  -- an accepted word has the normal form of its product as an image, where their differences are kept
  pub image_of_kept : (x : ℕ) (u v : List ℕ) → IsGenerator structure x → Accepts structure u → NormalForm rules (u ++ x ∷ []) v
      → HaveDifferences (group_of presentation rules) words u v → Multiplies structure x u v
  image_of_kept x u v generator accepts normal have =
      let n = presentation.n in
      let first = over u accepts.letters in
      let same = same_as_normal presentation rules is (u ++ x ∷ []) v normal in
      let second = same_over presentation rules is (u ++ x ∷ []) v same (over_last n u x first (letter x generator)) in
      let form = has_normal presentation rules is (x ∷ []) in
      let differs = congruent_transitive
      (congruent_behind u (congruent_symmetric (same_as_normal presentation rules is (x ∷ []) form.0 form.1))) same in
      leads_multiplies x u v form.0 generator accepts (irreducible_accepts v second normal.irreducible) form.1
      (leads_where_kept presentation rules is words u v form.0 first second form.1.irreducible differs
      (kept_of_differences presentation rules is words u v first have))
