-- A check finds one fault at most, and none where the fields say generators; so for files.
use Rattle.std.proofs.Common.{◌≡◌, ◌≢◌, ℕ, ◌≤◌, ◌⊎◌, inl, inr, List, Some, Result, Err, refl, sym, ap, subst, ◌∙◌}
use Rattle.std.proofs.lemmas.Option.{same_Some}
use Rattle.kb_word.specs.Presentations.{PresentationParts}
use Rattle.kb_record.specs.Tree.{Factors, Fields, TextTree, record_value}
use Rattle.kb_record.specs.Grammar.{TextOf}
use Rattle.kb_record.specs.Nesting.{deepest, text_nesting}
use Rattle.kb_record.specs.Faults.{HasTextFault}
use Rattle.kb_record.specs.Meaning.{WordFault, unknown_generator, no_inverse, too_long, word_meaning}
use Rattle.kb_record.specs.declared.error.RecordError.{RecordError}
use Rattle.kb_record.specs.declared.error.RecordError.TheVariants as record_errors
use Rattle.kb_fields.specs.Fields.{namings}
use Rattle.kb_fields.proofs.FirstFaultLemmas.{one_first_fault}
use Rattle.kb_fields.proofs.NamingLemmas.{one_repeated}
use Rattle.kb_subfile.specs.Checks.{Step, field_names, is_there, are_words, few_words, read_words, Before}
use Rattle.kb_subfile.specs.Holds.{HasWords, HoldsGenerators, GeneratorsOf, Mean}
use Rattle.kb_subfile.specs.Faults.{IsFaultOf, refusal_of, HasFaultAt, StepFinds, Finds, IsMemoryOr, IsFirstOf, IsFirstOfText, HasSubFault}
use Rattle.kb_subfile.specs.declared.error.SubError.{SubError}
use Rattle.kb_subfile.specs.declared.error.SubError.TheVariants as errors
use Rattle.kb_subfile.proofs.CheckLemmas.{in_order}
use Rattle.kb_subfile.proofs.FaultLemmas.{FindsNone, none_repeated, none_missing, none_of_other_kind, none_too_many, none_unread}
use Rattle.kb_subfile.proofs.WordLemmas.{one_list_of_words, one_meaning}

fault_same : {f g : WordFault} → ◌≡◌ {A = Result (List ℕ) WordFault} (Err f) (Err g) → f ≡ g
fault_same e = cc

one_word_fault : (m : Result (List ℕ) WordFault) (e f : SubError) → IsFaultOf m e → IsFaultOf m f → e ≡ f
one_word_fault m e f a b = a.2 ∙ ap refusal_of (fault_same (sym a.1 ∙ b.1)) ∙ sym b.2

module _ (parts : PresentationParts) where
  one_fault_at : (words : List Factors) (k : ℕ) (e f : SubError) → HasFaultAt parts words k e → HasFaultAt parts words k f → e ≡ f
  one_fault_at words k e f a b =
      let P : Factors → Type 0 = λ w. IsFaultOf (word_meaning parts.names parts.inverses w) e in
      one_word_fault (word_meaning parts.names parts.inverses b.word) e f (subst P (same_Some a.word b.word (sym a.stands ∙ b.stands)) a.fault) b.fault

  -- a check finds one fault at most
  one_finding : (given : Fields) (step : Step) (k : ℕ) (e f : SubError) → StepFinds parts given step k e → StepFinds parts given step k f → e ≡ f
  one_finding given field_names k e f a b =
      a.1 ∙ ap (λ (name : List ℕ). errors.FieldTwice name) (one_repeated (namings (record_value given)) k a.0 b.0 a.2 b.2) ∙ sym b.1
  one_finding given is_there k e f a b = a.0 ∙ sym b.0
  one_finding given are_words k e f a b = a.0 ∙ sym b.0
  one_finding given few_words k e f a b = a.0 ∙ sym b.0
  one_finding given read_words k e f a b =
      let P : List Factors → Type 0 = λ ws. HasFaultAt parts ws k e in
      one_fault_at b.0 k e f (subst P (one_list_of_words given a.0 b.0 a.1 b.1) a.2) b.2

  one_fault_of_fields : (given : Fields) (e f : SubError) → IsFirstOf parts given e → IsFirstOf parts given f → e ≡ f
  one_fault_of_fields given e f a b =
      one_first_fault Before (λ check error. Finds parts given check error) in_order (λ c x y s t. one_finding given c.step c.place x y s t) e f a b

  words_given : (given : Fields) (generators : List (List ℕ)) (h : HoldsGenerators given parts generators) → HasWords given h.lists.words
  words_given given generators h = h.given ∙ ap Some h.lists.listed

  -- no check finds a fault where the fields say generators
  finds_none : (given : Fields) (generators : List (List ℕ)) → HoldsGenerators given parts generators → (step : Step) → FindsNone parts given step
  finds_none given generators h field_names = none_repeated parts given h.once
  finds_none given generators h is_there = none_missing parts given h.value h.given
  finds_none given generators h are_words = none_of_other_kind parts given h.lists.words (words_given given generators h)
  finds_none given generators h few_words = none_too_many parts given h.lists.words (words_given given generators h) h.lists.few
  finds_none given generators h read_words = none_unread parts given h.lists.words (words_given given generators h) generators h.lists.mean

  no_fault : (given : Fields) (generators : List (List ℕ)) (error : SubError) → HoldsGenerators given parts generators → IsFirstOf parts given error → ⊥
  no_fault given generators error h fault = finds_none given generators h fault.check.step fault.check.place error fault.found

-- a fault of fields, and neither one of the text nor want of memory
abbrev IsOfFields : SubError → Type 0
IsOfFields (errors.Syntax at) = ⊥
IsOfFields (errors.TooDeep at) = ⊥
IsOfFields errors.Memory = ⊥
IsOfFields _ = Unit {0}

by_refusal : (e f : SubError) → e ≡ f → IsOfFields f → IsOfFields e
by_refusal e f is of = let P : SubError → Type 0 = λ x. IsOfFields x in subst P (sym is) of

word_of_fields : (fault : WordFault) → IsOfFields (refusal_of fault)
word_of_fields (unknown_generator name) = tt
word_of_fields (no_inverse name) = tt
word_of_fields too_long = tt

module _ (parts : PresentationParts) where
  found_of_fields : (given : Fields) (step : Step) (k : ℕ) (e : SubError) → StepFinds parts given step k e → IsOfFields e
  found_of_fields given field_names k e a = by_refusal e (errors.FieldTwice a.0) a.1 tt
  found_of_fields given is_there k e a = by_refusal e errors.MissingField a.0 tt
  found_of_fields given are_words k e a = by_refusal e errors.WrongKind a.0 tt
  found_of_fields given few_words k e a = by_refusal e errors.TooManyEquations a.0 tt
  found_of_fields given read_words k e a = by_refusal e (refusal_of a.2.fault.0) a.2.fault.2 (word_of_fields a.2.fault.0)

  first_of_fields : (given : Fields) (e : SubError) → IsFirstOf parts given e → IsOfFields e
  first_of_fields given e fault = found_of_fields given fault.check.step fault.check.place e fault.found

  -- the first fault of the fields is that of the bytes
  pub text_fault : (bytes : List ℕ) (text : TextTree) (error : SubError) → TextOf bytes text → text_nesting text ≤ deepest
      → IsMemoryOr (IsFirstOf parts text.fields) error → HasSubFault parts bytes error
  text_fault bytes text (errors.Syntax at) formed shallow fault = absurd (first_of_fields text.fields (errors.Syntax at) fault)
  text_fault bytes text (errors.TooDeep at) formed shallow fault = absurd (first_of_fields text.fields (errors.TooDeep at) fault)
  text_fault bytes text errors.Memory formed shallow fault = tt
  text_fault bytes text error formed shallow fault = record { text = text; formed = formed; shallow = shallow; first = fault }

  -- ---- files

  pub one_list : (given : Fields) (one other : List (List ℕ)) → HoldsGenerators given parts one → HoldsGenerators given parts other → one ≡ other
  one_list given one other a b =
      let P : List Factors → Type 0 = λ ws. Mean parts ws one in
      let same = one_list_of_words given a.lists.words b.lists.words (words_given parts given one a) (words_given parts given other b) in
      one_meaning parts b.lists.words one other (subst P same a.lists.mean) b.lists.mean

-- the refusal of a text as that of a file
abbrev file_refusal : RecordError → SubError
file_refusal (record_errors.Syntax at) = errors.Syntax at
file_refusal (record_errors.TooDeep at) = errors.TooDeep at
file_refusal record_errors.Memory = errors.Memory

-- the bytes have the fault as no text
record IsTextRefusal (bytes : List ℕ) (error : SubError) : Type 0 where
  pub refusal : RecordError
  pub fault : HasTextFault bytes refusal
  pub named : refusal ≢ record_errors.Memory
  pub same : error ≡ file_refusal refusal

syntax_is_no_memory : (at : ℕ) → record_errors.Syntax at ≡ record_errors.Memory → ⊥
syntax_is_no_memory at is = cc

depth_is_no_memory : (at : ℕ) → record_errors.TooDeep at ≡ record_errors.Memory → ⊥
depth_is_no_memory at is = cc

module _ (parts : PresentationParts) (bytes : List ℕ) where
  -- a fault of the bytes is one of a text, or the first of a text's fields
  text_or_fields : (error : SubError) → HasSubFault parts bytes error → error ≢ errors.Memory → IsTextRefusal bytes error ⊎ IsFirstOfText parts bytes error
  text_or_fields (errors.Syntax at) fault given = inl (record { refusal = record_errors.Syntax at; fault = fault; named = syntax_is_no_memory at; same = refl })
  text_or_fields (errors.TooDeep at) fault given = inl (record { refusal = record_errors.TooDeep at; fault = fault; named = depth_is_no_memory at; same = refl })
  text_or_fields errors.Memory fault given = absurd (given refl)
  text_or_fields error fault given = inr fault

  module _ (one_tree : (one other : TextTree) → TextOf bytes one → TextOf bytes other → one ≡ other)
      (no_text_fault : (text : TextTree) (refusal : RecordError) → TextOf bytes text → text_nesting text ≤ deepest → HasTextFault bytes refusal → refusal ≡ record_errors.Memory) where
    pub no_file_fault : (generators : List (List ℕ)) (error : SubError) → GeneratorsOf bytes parts generators → HasSubFault parts bytes error → error ≡ errors.Memory
    no_file_fault generators (errors.Syntax at) h fault = absurd (syntax_is_no_memory at (no_text_fault h.text (record_errors.Syntax at) h.formed h.shallow fault))
    no_file_fault generators (errors.TooDeep at) h fault = absurd (depth_is_no_memory at (no_text_fault h.text (record_errors.TooDeep at) h.formed h.shallow fault))
    no_file_fault generators errors.Memory h fault = refl
    no_file_fault generators error h fault =
        let P : TextTree → Type 0 = λ t. IsFirstOf parts t.fields error in
        absurd (no_fault parts h.text.fields generators error h.holds (subst P (one_tree fault.text h.text fault.formed h.formed) fault.first))

    module _ (one_text_fault : (one other : RecordError) → HasTextFault bytes one → HasTextFault bytes other → one ≢ record_errors.Memory → other ≢ record_errors.Memory → one ≡ other) where
      same_refusal : (one other : SubError) → IsTextRefusal bytes one ⊎ IsFirstOfText parts bytes one → IsTextRefusal bytes other ⊎ IsFirstOfText parts bytes other → one ≡ other
      same_refusal one other (inl a) (inl b) = a.same ∙ ap file_refusal (one_text_fault a.refusal b.refusal a.fault b.fault a.named b.named) ∙ sym b.same
      same_refusal one other (inl a) (inr b) = absurd (a.named (no_text_fault b.text a.refusal b.formed b.shallow a.fault))
      same_refusal one other (inr a) (inl b) = absurd (b.named (no_text_fault a.text b.refusal a.formed a.shallow b.fault))
      same_refusal one other (inr a) (inr b) =
          let P : TextTree → Type 0 = λ t. IsFirstOf parts t.fields one in
          one_fault_of_fields parts b.text.fields one other (subst P (one_tree a.text b.text a.formed b.formed) a.first) b.first

      pub one_file_fault : (one other : SubError) → HasSubFault parts bytes one → HasSubFault parts bytes other → one ≢ errors.Memory → other ≢ errors.Memory → one ≡ other
      one_file_fault one other a b given_one given_other = same_refusal one other (text_or_fields one a given_one) (text_or_fields other b given_other)
