-- A check finds one fault at most, and none where the fields say a presentation; so for files.
use Rattle.std.proofs.Common.{◌≡◌, ◌≢◌, ℕ, ◌≤◌, ◌⊎◌, inl, inr, List, Option, Result, Err, refl, sym, ap, subst, ◌∙◌}
use Rattle.std.proofs.lemmas.Option.{same_Some}
use Rattle.kb_word.specs.Presentations.{PresentationParts}
use Rattle.kb_record.specs.Tree.{Factors, Value, Fields, Places, TextTree, record_value}
use Rattle.kb_record.specs.Grammar.{TextOf}
use Rattle.kb_record.specs.Nesting.{deepest, text_nesting}
use Rattle.kb_record.specs.Faults.{HasTextFault}
use Rattle.kb_record.specs.declared.error.RecordError.{RecordError}
use Rattle.kb_record.specs.declared.error.RecordError.TheVariants as record_errors
use Rattle.kb_record.specs.Meaning.{WordFault, unknown_generator, no_inverse, too_long, word_meaning}
use Rattle.kb_fields.specs.Fields.{namings}
use Rattle.kb_fields.specs.Generators.{IsTakenAt}
use Rattle.kb_fields.proofs.FirstFaultLemmas.{one_first_fault}
use Rattle.kb_fields.proofs.ListingLemmas.{list_same, some_value}
use Rattle.kb_fields.proofs.NamingLemmas.{one_repeated}
use Rattle.kb_fields.proofs.TakenLemmas.{one_taken}
use Rattle.kb_presfile.specs.Holds.{HasInverses, HoldsPresentation, PresentationOf}
use Rattle.kb_presfile.specs.Checks.{Step, field_names, is_there, is_of_kind, known_ordering, few_names, free_names, right_weights, known_inverses, mutual_inverses, few_equations, read_equations, Before}
use Rattle.kb_presfile.specs.Faults.{IsFaultOf, refusal_of, SidesHaveFault, PlaceHasFault, HasFaultAt, PlaceIsUnknown, IsNotMutual, StepFinds, Finds, IsMemoryOr, IsFirstOf, IsFirstOfText, HasPresFault}
use Rattle.kb_presfile.specs.declared.error.Field.TheVariants as kinds
use Rattle.kb_presfile.specs.declared.error.PresError.{PresError}
use Rattle.kb_presfile.specs.declared.error.PresError.TheVariants as errors
use Rattle.kb_presfile.specs.declared.order.Ordering.TheVariants as orderings
use Rattle.kb_word.specs.declared.word_order.WordOrder.{WordOrder}
use Rattle.kb_word.specs.declared.word_order.WordOrder.TheVariants as orders
use Rattle.kb_presfile.specs.Holds.{HasOrder, IsOrdering}
use Rattle.kb_presfile.specs.declared.order.Ordering.{Ordering}
use Rattle.kb_presfile.proofs.CheckLemmas.{in_order}
use Rattle.kb_presfile.proofs.PlaceLemmas.{one_list_of_names}
use Rattle.kb_presfile.proofs.UniqueParts.{one_list_of_places, one_list_of_inverses, sides_same}
use Rattle.kb_presfile.proofs.NoFault as none
use Rattle.kb_presfile.proofs.NoFault.{FindsNone}

fault_same : {f g : WordFault} → ◌≡◌ {A = Result (List ℕ) WordFault} (Err f) (Err g) → f ≡ g
fault_same e = cc

one_word_fault : (m : Result (List ℕ) WordFault) (e f : PresError) → IsFaultOf m e → IsFaultOf m f → e ≡ f
one_word_fault m e f a b = a.2 ∙ ap refusal_of (fault_same (sym a.1 ∙ b.1)) ∙ sym b.2

one_side_fault : (names : List (List ℕ)) (inverses : List (Option ℕ)) (sides : Factors × Factors) (e f : PresError)
    → SidesHaveFault names inverses sides e → SidesHaveFault names inverses sides f → e ≡ f
one_side_fault names inverses sides e f (inl a) (inl b) = one_word_fault (word_meaning names inverses sides.0) e f a b
one_side_fault names inverses sides e f (inl a) (inr b) = let never = sym a.1 ∙ b.1 in cc
one_side_fault names inverses sides e f (inr a) (inl b) = let never = sym b.1 ∙ a.1 in cc
one_side_fault names inverses sides e f (inr a) (inr b) = one_word_fault (word_meaning names inverses sides.1) e f a.2 b.2

one_place_fault : (names : List (List ℕ)) (inverses : List (Option ℕ)) (place : Option Value) (e f : PresError)
    → PlaceHasFault names inverses place e → PlaceHasFault names inverses place f → e ≡ f
one_place_fault names inverses place e f (inl a) (inl b) = a.0 ∙ sym b.0
one_place_fault names inverses place e f (inl a) (inr b) = absurd (a.1 b.0 b.1)
one_place_fault names inverses place e f (inr a) (inl b) = absurd (b.1 a.0 a.1)
one_place_fault names inverses place e f (inr a) (inr b) =
    let same = sides_same a.0 b.0 (sym a.1 ∙ b.1) in
    let P : Factors × Factors → Type 0 = λ s. SidesHaveFault names inverses s e in
    one_side_fault names inverses b.0 e f (subst P same a.2) b.2

-- a check finds one fault at most
pub one_finding : (given : Fields) (step : Step) (k : ℕ) (e f : PresError) → StepFinds given step k e → StepFinds given step k f → e ≡ f
one_finding given field_names k e f a b =
    a.1 ∙ ap (λ (name : List ℕ). errors.FieldTwice name) (one_repeated (namings (record_value given)) k a.0 b.0 a.2 b.2) ∙ sym b.1
one_finding given (is_there field) k e f a b = a.0 ∙ sym b.0
one_finding given (is_of_kind field) k e f a b = a.0 ∙ sym b.0
one_finding given known_ordering k e f a b = a.0 ∙ sym b.0
one_finding given few_names k e f a b = a.0 ∙ sym b.0
one_finding given free_names k e f a b =
    let same = one_list_of_names given a.names b.names a.named b.named in
    let P : List (List ℕ) → Type 0 = λ ns. IsTakenAt ns k a.name in
    a.refused ∙ ap (λ (name : List ℕ). errors.NameTaken name) (one_taken b.names k a.name b.name (subst P same a.taken) b.taken) ∙ sym b.refused
one_finding given right_weights k e f a b = a.0 ∙ sym b.0
one_finding given known_inverses k e f a b =
    let places = one_list_of_places _ a.places b.places a.has_places.placed b.has_places.placed in
    let P : List (Option (List ℕ)) → Type 0 = λ ps. PlaceIsUnknown a.names ps k e in
    let here = subst P places a.fault in
    here.refused ∙ ap (λ (name : List ℕ). errors.UnknownGenerator name) (same_Some here.name b.fault.name (sym here.stands ∙ b.fault.stands)) ∙ sym b.fault.refused
one_finding given mutual_inverses k e f a b =
    let same = one_list_of_names given a.names b.names a.has_places.named b.has_places.named in
    let P : List (List ℕ) → Type 0 = λ ns. IsNotMutual ns a.places k e in
    let here = subst P same a.fault in
    here.refused ∙ ap (λ (name : List ℕ). errors.InverseNotMutual name) (same_Some here.name b.fault.name (sym here.is_name ∙ b.fault.is_name)) ∙ sym b.fault.refused
one_finding given few_equations k e f a b = a.0 ∙ sym b.0
one_finding given read_equations k e f a b =
    let same = one_list_of_names given a.names b.names a.named b.named in
    let I : List (List ℕ) → Type 0 = λ ns. HasInverses given ns a.inverses in
    let inverses = one_list_of_inverses given b.names a.inverses b.inverses (subst I same a.inverted) b.inverted in
    let places : a.places ≡ b.places = list_same (some_value (sym a.listed ∙ b.listed)) in
    let N : List (List ℕ) → Type 0 = λ ns. HasFaultAt ns a.inverses a.places k e in
    let J : List (Option ℕ) → Type 0 = λ is. HasFaultAt b.names is a.places k e in
    let P : Places → Type 0 = λ ps. HasFaultAt b.names b.inverses ps k e in
    let here = subst P places (subst J inverses (subst N same a.fault)) in
    one_place_fault b.names b.inverses _ e f here.1 b.fault.1

pub one_fault_of_fields : (given : Fields) (e f : PresError) → IsFirstOf given e → IsFirstOf given f → e ≡ f
one_fault_of_fields given e f a b = one_first_fault Before (λ check error. Finds given check error) in_order (λ c x y s t. one_finding given c.step c.place x y s t) e f a b

-- the ordering that an order of words belongs to
ordering_of : (given : Fields) (names : List (List ℕ)) (order : WordOrder) → HasOrder given names order → (ordering : Ordering) × IsOrdering given ordering
ordering_of given names orders.ShortLex has = (orderings.ShortLex, has)
ordering_of given names (orders.WtLex weights) has = (orderings.WtLex, has.0)

-- no check finds a fault where the fields say a presentation
pub finds_none : (given : Fields) (parts : PresentationParts) → HoldsPresentation given parts → (step : Step) → FindsNone given step
finds_none given parts h field_names = none.none_repeated given h.once
finds_none given parts h (is_there kinds.IsRws) = none.none_missing given kinds.IsRws _ h.is_rws
finds_none given parts h (is_of_kind kinds.IsRws) = none.none_of_other_kind given kinds.IsRws _ h.is_rws refl
finds_none given parts h (is_there kinds.Ordering) = none.none_needed given kinds.Ordering (λ never. never)
finds_none given parts h (is_of_kind kinds.Ordering) = let o = ordering_of given parts.names parts.order h.ordered in none.ordering_of_kind given o.0 o.1
finds_none given parts h known_ordering = let o = ordering_of given parts.names parts.order h.ordered in none.ordering_known given o.0 o.1
finds_none given parts h (is_there kinds.GeneratorOrder) = none.names_there given parts.names h.named
finds_none given parts h (is_of_kind kinds.GeneratorOrder) = none.names_of_kind given parts.names h.named
finds_none given parts h few_names = none.names_few given parts.names h.named h.names.few
finds_none given parts h free_names = none.names_free given parts.names h.named h.names
finds_none given parts h (is_there kinds.Weight) = none.weights_there given parts.names h.named parts.order h.ordered
finds_none given parts h (is_of_kind kinds.Weight) = none.weights_of_kind given parts.names h.named parts.order h.ordered
finds_none given parts h right_weights = none.weights_right given parts.names h.named parts.order h.ordered
finds_none given parts h (is_there kinds.Inverses) = none.none_needed given kinds.Inverses (λ never. never)
finds_none given parts h (is_of_kind kinds.Inverses) = none.inverses_of_kind given parts.names h.named parts.inverses h.inverses
finds_none given parts h known_inverses = none.inverses_known given parts.names h.named parts.inverses h.inverses
finds_none given parts h mutual_inverses = none.inverses_mutual given parts.names h.named parts.inverses h.inverses
finds_none given parts h (is_there kinds.Equations) = none.equations_there given parts.names h.named parts.inverses h.inverses parts.equations h.equations
finds_none given parts h (is_of_kind kinds.Equations) = none.equations_of_kind given parts.names h.named parts.inverses h.inverses parts.equations h.equations
finds_none given parts h few_equations = none.equations_few given parts.names h.named parts.inverses h.inverses parts.equations h.equations
finds_none given parts h read_equations = none.equations_read given parts.names h.named parts.inverses h.inverses parts.equations h.equations

pub no_fault : (given : Fields) (parts : PresentationParts) (error : PresError) → HoldsPresentation given parts → IsFirstOf given error → ⊥
no_fault given parts error h fault = finds_none given parts h fault.check.step fault.check.place error fault.found

-- a fault of fields, and neither one of the text nor want of memory
abbrev IsOfFields : PresError → Type 0
IsOfFields (errors.Syntax at) = ⊥
IsOfFields (errors.TooDeep at) = ⊥
IsOfFields errors.Memory = ⊥
IsOfFields _ = Unit {0}

by_refusal : (e f : PresError) → e ≡ f → IsOfFields f → IsOfFields e
by_refusal e f is of = let P : PresError → Type 0 = λ x. IsOfFields x in subst P (sym is) of

word_of_fields : (fault : WordFault) → IsOfFields (refusal_of fault)
word_of_fields (unknown_generator name) = tt
word_of_fields (no_inverse name) = tt
word_of_fields too_long = tt

place_of_fields : (names : List (List ℕ)) (inverses : List (Option ℕ)) (place : Option Value) (e : PresError) → PlaceHasFault names inverses place e → IsOfFields e
place_of_fields names inverses place e (inl a) = by_refusal e (errors.WrongKind kinds.Equations) a.0 tt
place_of_fields names inverses place e (inr a) = elim a.2 [
  | inl left ↦ by_refusal e (refusal_of left.0) left.2 (word_of_fields left.0)
  | inr right ↦ by_refusal e (refusal_of right.2.0) right.2.2 (word_of_fields right.2.0)
]

found_of_fields : (given : Fields) (step : Step) (k : ℕ) (e : PresError) → StepFinds given step k e → IsOfFields e
found_of_fields given field_names k e a = by_refusal e (errors.FieldTwice a.0) a.1 tt
found_of_fields given (is_there field) k e a = by_refusal e (errors.MissingField field) a.0 tt
found_of_fields given (is_of_kind field) k e a = by_refusal e (errors.WrongKind field) a.0 tt
found_of_fields given known_ordering k e a = by_refusal e errors.OtherOrdering a.0 tt
found_of_fields given few_names k e a = by_refusal e errors.TooManyGenerators a.0 tt
found_of_fields given free_names k e a = by_refusal e (errors.NameTaken a.name) a.refused tt
found_of_fields given right_weights k e a = by_refusal e errors.WeightsWrong a.0 tt
found_of_fields given known_inverses k e a = by_refusal e (errors.UnknownGenerator a.fault.name) a.fault.refused tt
found_of_fields given mutual_inverses k e a = by_refusal e (errors.InverseNotMutual a.fault.name) a.fault.refused tt
found_of_fields given few_equations k e a = by_refusal e errors.TooManyEquations a.0 tt
found_of_fields given read_equations k e a = place_of_fields a.names a.inverses _ e a.fault.1

first_of_fields : (given : Fields) (e : PresError) → IsFirstOf given e → IsOfFields e
first_of_fields given e fault = found_of_fields given fault.check.step fault.check.place e fault.found

-- the first fault of the fields is that of the bytes
pub text_fault : (bytes : List ℕ) (text : TextTree) (error : PresError) → TextOf bytes text → text_nesting text ≤ deepest → IsMemoryOr (IsFirstOf text.fields) error → HasPresFault bytes error
text_fault bytes text (errors.Syntax at) formed shallow fault = absurd (first_of_fields text.fields (errors.Syntax at) fault)
text_fault bytes text (errors.TooDeep at) formed shallow fault = absurd (first_of_fields text.fields (errors.TooDeep at) fault)
text_fault bytes text errors.Memory formed shallow fault = tt
text_fault bytes text error formed shallow fault = record { text = text; formed = formed; shallow = shallow; first = fault }

-- ---- files

-- the refusal of a text as that of a presentation file
abbrev file_refusal : RecordError → PresError
file_refusal (record_errors.Syntax at) = errors.Syntax at
file_refusal (record_errors.TooDeep at) = errors.TooDeep at
file_refusal record_errors.Memory = errors.Memory

-- the bytes have the fault as no text
record IsTextRefusal (bytes : List ℕ) (error : PresError) : Type 0 where
  pub refusal : RecordError
  pub fault : HasTextFault bytes refusal
  pub named : refusal ≢ record_errors.Memory
  pub same : error ≡ file_refusal refusal

syntax_is_no_memory : (at : ℕ) → record_errors.Syntax at ≡ record_errors.Memory → ⊥
syntax_is_no_memory at is = cc

depth_is_no_memory : (at : ℕ) → record_errors.TooDeep at ≡ record_errors.Memory → ⊥
depth_is_no_memory at is = cc

-- a fault of the bytes is one of a text, or the first of a text's fields
text_or_fields : (bytes : List ℕ) (error : PresError) → HasPresFault bytes error → error ≢ errors.Memory → IsTextRefusal bytes error ⊎ IsFirstOfText bytes error
text_or_fields bytes (errors.Syntax at) fault given = inl (record { refusal = record_errors.Syntax at; fault = fault; named = syntax_is_no_memory at; same = refl })
text_or_fields bytes (errors.TooDeep at) fault given = inl (record { refusal = record_errors.TooDeep at; fault = fault; named = depth_is_no_memory at; same = refl })
text_or_fields bytes errors.Memory fault given = absurd (given refl)
text_or_fields bytes error fault given = inr fault

module _ (bytes : List ℕ) (one_tree : (one other : TextTree) → TextOf bytes one → TextOf bytes other → one ≡ other)
    (no_text_fault : (text : TextTree) (refusal : RecordError) → TextOf bytes text → text_nesting text ≤ deepest → HasTextFault bytes refusal → refusal ≡ record_errors.Memory) where
  pub no_file_fault : (parts : PresentationParts) (error : PresError) → PresentationOf bytes parts → HasPresFault bytes error → error ≡ errors.Memory
  no_file_fault parts (errors.Syntax at) h fault = absurd (syntax_is_no_memory at (no_text_fault h.text (record_errors.Syntax at) h.formed h.shallow fault))
  no_file_fault parts (errors.TooDeep at) h fault = absurd (depth_is_no_memory at (no_text_fault h.text (record_errors.TooDeep at) h.formed h.shallow fault))
  no_file_fault parts errors.Memory h fault = refl
  no_file_fault parts error h fault =
      let same = one_tree fault.text h.text fault.formed h.formed in
      let P : TextTree → Type 0 = λ t. IsFirstOf t.fields error in
      absurd (no_fault h.text.fields parts error h.holds (subst P same fault.first))

  module _ (one_text_fault : (one other : RecordError) → HasTextFault bytes one → HasTextFault bytes other → one ≢ record_errors.Memory → other ≢ record_errors.Memory → one ≡ other) where
    same_refusal : (one other : PresError) → IsTextRefusal bytes one ⊎ IsFirstOfText bytes one → IsTextRefusal bytes other ⊎ IsFirstOfText bytes other → one ≡ other
    same_refusal one other (inl a) (inl b) = a.same ∙ ap file_refusal (one_text_fault a.refusal b.refusal a.fault b.fault a.named b.named) ∙ sym b.same
    same_refusal one other (inl a) (inr b) = absurd (a.named (no_text_fault b.text a.refusal b.formed b.shallow a.fault))
    same_refusal one other (inr a) (inl b) = absurd (b.named (no_text_fault a.text b.refusal a.formed a.shallow b.fault))
    same_refusal one other (inr a) (inr b) =
        let same = one_tree a.text b.text a.formed b.formed in
        let P : TextTree → Type 0 = λ t. IsFirstOf t.fields one in
        one_fault_of_fields b.text.fields one other (subst P same a.first) b.first

    pub one_file_fault : (one other : PresError) → HasPresFault bytes one → HasPresFault bytes other → one ≢ errors.Memory → other ≢ errors.Memory → one ≡ other
    one_file_fault one other a b given_one given_other = same_refusal one other (text_or_fields bytes one a given_one) (text_or_fields bytes other b given_other)
