-- The canonical forms of a group's own structure are its own structure, too.
use Rattle.std.proofs.Common.{◌≡◌, ◌∙◌, ℕ, zero, suc, ◌+◌, ◌<◌, ◌≤◌, List, [], ◌∷◌, ◌++◌, length, get_or, take, refl, sym, ap, subst, arith}
use Rattle.std.proofs.lemmas.List.{take_all, take_more}
use Rattle.std.proofs.lemmas.Option.{slice_get-get_or}
use Rattle.kb_word.specs.Words.{Pair as Sides}
use Rattle.kb_word.specs.Relations.{IsOver}
use Rattle.kb_word.specs.declared.word_order.WordOrder.{WordOrder}
use Rattle.kb_fsa.specs.Language.{AcceptsText, Automaton, generators}
use Rattle.kb_fsa.specs.Padding.{padded}
use Rattle.kb_structure.specs.Structure.{Accepts, IsAutomaticStructure, IsGenerator, IsProduct, IsRepresentative, Multiplies, Structure}
use Rattle.kb_structure.specs.StructureOf.{FitTogether, structure_of}
use Rattle.kb_structure.specs.Certificates.{HasImages}
use Rattle.kb_structure.proofs.OfAutomata.{multiplied_pair, pair_multiplied}
use Rattle.kb_cmd_structures.specs.CanonicalForms.{AreCanonicalForms, IsCanonicalForm}

-- ---- one after another

pub as_many_forms : (automata forms : List Automaton) → AreCanonicalForms automata forms → length automata ≡ length forms
as_many_forms [] [] are = refl
as_many_forms (automaton ∷ automata) (form ∷ forms) are = ap suc (as_many_forms automata forms are.1)
as_many_forms [] (form ∷ forms) are = absurd are
as_many_forms (automaton ∷ automata) [] are = absurd are

pub form_at : (automata forms : List Automaton) (place : ℕ) (none : Automaton) → AreCanonicalForms automata forms
    → place < length automata → IsCanonicalForm (get_or automata place none) (get_or forms place none)
form_at [] forms place none are within = absurd (omega (arith, within))
form_at (automaton ∷ automata) [] place none are within = absurd are
form_at (automaton ∷ automata) (form ∷ forms) zero none are within = are.0
form_at (automaton ∷ automata) (form ∷ forms) (suc place) none are within = form_at automata forms place none are.1 (omega (arith, within))

forms_with : (automata forms : List Automaton) (automaton form : Automaton) → AreCanonicalForms automata forms
    → IsCanonicalForm automaton form → AreCanonicalForms (automata ++ automaton ∷ []) (forms ++ form ∷ [])
forms_with [] [] automaton form are is = (is, tt)
forms_with (first ∷ automata) (second ∷ forms) automaton form are is = (are.0, forms_with automata forms automaton form are.1 is)
forms_with [] (second ∷ forms) automaton form are is = absurd are
forms_with (first ∷ automata) [] automaton form are is = absurd are

-- the forms of the first few, with the next one
pub forms_more : (automata forms : List Automaton) (many : ℕ) (automaton form : Automaton) → AreCanonicalForms (take many automata) forms
    → many < length automata → automaton ≡ get_or automata many automaton → IsCanonicalForm automaton form
    → AreCanonicalForms (take (many + 1) automata) (forms ++ form ∷ [])
forms_more automata forms many automaton form are low at is =
    let front = take many automata in
    let list : take (many + 1) automata ≡ front ++ automaton ∷ [] =
    take_more automata many automaton low ∙ ap (λ (a : Automaton). front ++ a ∷ []) (sym at) in
    let Forms : List Automaton → Type 0 = λ l. AreCanonicalForms l (forms ++ form ∷ []) in
    subst Forms (sym list) (forms_with front forms automaton form are is)

pub all_forms : (automata forms : List Automaton) (many : ℕ) → AreCanonicalForms (take many automata) forms → length automata ≤ many
    → AreCanonicalForms automata forms
all_forms automata forms many are whole =
    let Forms : List Automaton → Type 0 = λ l. AreCanonicalForms l forms in
    subst Forms (take_all many automata whole) are

-- ---- what they accept

module _ (order : WordOrder) (relations : List Sides) (forms : List Automaton) {acceptor form : Automaton}
    {multipliers : List Automaton} (fit : FitTogether acceptor multipliers) (is : IsCanonicalForm acceptor form)
    (are : AreCanonicalForms multipliers forms) where
  abbrev given : Structure
  given = structure_of order relations acceptor multipliers

  abbrev made : Structure
  made = structure_of order relations form forms

  same_n : generators form.alphabet ≡ generators acceptor.alphabet
  same_n = ap generators is.alphabet

  over_given : (w : List ℕ) → IsOver (generators form.alphabet) w → IsOver (generators acceptor.alphabet) w
  over_given w over = let Over : ℕ → Type 0 = λ k. IsOver k w in subst Over same_n over

  over_made : (w : List ℕ) → IsOver (generators acceptor.alphabet) w → IsOver (generators form.alphabet) w
  over_made w over = let Over : ℕ → Type 0 = λ k. IsOver k w in subst Over (sym same_n) over

  generator_given : (x : ℕ) → IsGenerator made x → IsGenerator given x
  generator_given x generator = let High : ℕ → Type 0 = λ k. x ≤ k in (generator.0, subst High same_n generator.1)

  accepts_given : (w : List ℕ) → Accepts made w → Accepts given w
  accepts_given w accepts = record { letters = over_given w accepts.letters; accepted = (is.language w).1 accepts.accepted }

  accepts_made : (w : List ℕ) → Accepts given w → Accepts made w
  accepts_made w accepts = record { letters = over_made w accepts.letters; accepted = (is.language w).0 accepts.accepted }

  module _ (place : ℕ) (letter : IsGenerator given (suc place)) (u v : List ℕ) where
    within : place < length multipliers
    within = let many = fit.one_each in let high : suc place ≤ generators acceptor.alphabet = letter.1 in omega (arith, many, high)

    form_within : place < length forms
    form_within = let many = as_many_forms multipliers forms are in let low = within in omega (arith, many, low)

    abbrev multiplier : Automaton
    multiplier = get_or multipliers place acceptor

    abbrev multiplies_form : Automaton
    multiplies_form = get_or forms place acceptor

    one : IsCanonicalForm multiplier multiplies_form
    one = form_at multipliers forms place acceptor are within

    multiplied_given : Multiplies made (suc place) u v → Multiplies given (suc place) u v
    multiplied_given multiplies =
        let accepted = multiplied_pair order relations form forms (suc place) multiplies_form
        (slice_get-get_or forms place acceptor form_within) u v multiplies in
        let At : ℕ → Type 0 = λ k. AcceptsText multiplies_form (padded k u v) in
        let read : AcceptsText multiplies_form (padded (generators multiplier.alphabet) u v) = subst At (ap generators one.alphabet) accepted in
        pair_multiplied order relations acceptor multipliers (suc place) multiplier (slice_get-get_or multipliers place acceptor within) u v
        (over_given u multiplies.first_letters) (over_given v multiplies.second_letters)
        ((one.language (padded (generators multiplier.alphabet) u v)).1 read)

    multiplied_made : Multiplies given (suc place) u v → Multiplies made (suc place) u v
    multiplied_made multiplies =
        let accepted = multiplied_pair order relations acceptor multipliers (suc place) multiplier
        (slice_get-get_or multipliers place acceptor within) u v multiplies in
        let read = (one.language (padded (generators multiplier.alphabet) u v)).0 accepted in
        let At : ℕ → Type 0 = λ k. AcceptsText multiplies_form (padded k u v) in
        let also : AcceptsText multiplies_form (padded (generators multiplies_form.alphabet) u v) = subst At (sym (ap generators one.alphabet)) read in
        pair_multiplied order relations form forms (suc place) multiplies_form (slice_get-get_or forms place acceptor form_within) u v
        (over_made u multiplies.first_letters) (over_made v multiplies.second_letters) also

  multiplies_given : (x : ℕ) → IsGenerator given x → (u v : List ℕ) → Multiplies made x u v → Multiplies given x u v
  multiplies_given zero letter u v multiplies = let positive = letter.0 in absurd (omega (arith, positive))
  multiplies_given (suc place) letter u v multiplies = multiplied_given place letter u v multiplies

  multiplies_made : (x : ℕ) → IsGenerator given x → (u v : List ℕ) → Multiplies given x u v → Multiplies made x u v
  multiplies_made zero letter u v multiplies = let positive = letter.0 in absurd (omega (arith, positive))
  multiplies_made (suc place) letter u v multiplies = multiplied_made place letter u v multiplies

  -- ---- the group's own structure

  representative_given : (w : List ℕ) → IsRepresentative made w → IsRepresentative given w
  representative_given w is_least = record { letters = over_given w is_least.letters; least = is_least.least }

  representative_made : (w : List ℕ) → IsRepresentative given w → IsRepresentative made w
  representative_made w is_least = record { letters = over_made w is_least.letters; least = is_least.least }

  product_given : (x : ℕ) (u v : List ℕ) → IsProduct made x u v → IsProduct given x u v
  product_given x u v product =
      record { first = representative_given u product.first; second = representative_given v product.second; equal = product.equal }

  product_made : (x : ℕ) (u v : List ℕ) → IsProduct given x u v → IsProduct made x u v
  product_made x u v product =
      record { first = representative_made u product.first; second = representative_made v product.second; equal = product.equal }

  pub own_forms : IsAutomaticStructure given → IsAutomaticStructure made
  own_forms own = record {
    acceptor = λ w. (
      (λ accepts. representative_made w ((own.acceptor w).0 (accepts_given w accepts))),
      (λ least. accepts_made w ((own.acceptor w).1 (representative_given w least))),
    );
    multipliers = λ x generator u v.
        let letter = generator_given x generator in (
          (λ multiplies. product_made x u v ((own.multipliers x letter u v).0 (multiplies_given x letter u v multiplies))),
          (λ product. multiplies_made x letter u v ((own.multipliers x letter u v).1 (product_given x u v product))),
        );
  }

  pub images_of_forms : HasImages given → HasImages made
  images_of_forms images x u generator accepts =
      let letter = generator_given x generator in
      let image = images x u letter (accepts_given u accepts) in
      (image.0, multiplies_made x letter u image.0 image.1)
