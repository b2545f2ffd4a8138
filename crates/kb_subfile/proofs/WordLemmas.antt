-- Lists of words, element by element, and the words that they mean.
use Rattle.std.proofs.Common.{◌≡◌, ℕ, zero, suc, ◌+◌, ◌<◌, inl, inr, List, [], ◌∷◌, ◌++◌, length, map, take, slice_get, All, Option, None, Some, IfNone, Result, Ok, Err, refl, sym, ap, subst, ◌∙◌, arith}
use Rattle.std.proofs.lemmas.Bool.{cases_lt}
use Rattle.std.proofs.lemmas.List.Elements.{All-cons, All-nil}
use Rattle.std.proofs.lemmas.List.{length-map, map-append, take_more}
use Rattle.std.proofs.lemmas.Option.{get_or_from_slice_get, same_Some, slice_get_within}
use Rattle.kb_word.specs.Presentations.{PresentationParts}
use Rattle.kb_word.specs.Relations.{IsOver, IsPresentation}
use Rattle.kb_record.specs.Tree.{Factors, Value, list_value, word_value, Fields, place}
use Rattle.kb_record.specs.Meaning.{WordFault, word_meaning}
use Rattle.kb_record.specs.View.{places_of}
use Rattle.kb_record.specs.Listed.{listed}
use Rattle.kb_record.proofs.Views.{listed-is}
use Rattle.kb_fields.specs.FirstFaults.{IsFirstFault}
use Rattle.kb_fields.proofs.ListingLemmas.{places_of-injective, list_same, one_place_more, some_value}
use Rattle.kb_word.specs.declared.word_order.WordOrder.TheVariants as orders
use Rattle.kb_presfile.specs.Holds.{AreMutual, AreEquations}
use Rattle.kb_presfile.specs.Kinds.{list_of_equations}
use Rattle.kb_presfile.proofs.OverLemmas.{equations_over}
use Rattle.kb_subfile.specs.Holds.{list_of_words, HasWords, Mean}
use Rattle.kb_subfile.specs.Faults.{IsFaultOf, HasFaultAt, IsMemoryOr}
use Rattle.kb_subfile.specs.declared.error.SubError.{SubError}
use Rattle.kb_subfile.proofs.CheckLemmas.{memory_or_weaker}

-- what is so, is so where there is none
pub if_none : {X P : Type 0} (found : Option X) → P → IfNone found P
if_none None p = p
if_none (Some x) p = tt

-- ---- lists of words

pub list_of_words-places_of : (words : List Factors) → list_of_words words ≡ places_of (map (λ (word : Factors). Some (word_value word)) words)
list_of_words-places_of [] = refl
list_of_words-places_of (word ∷ words) = ap (place (word_value word)) (list_of_words-places_of words)

words_injective : (vs ws : List Factors) → map (λ (word : Factors). Some (word_value word)) vs ≡ map (λ (word : Factors). Some (word_value word)) ws → vs ≡ ws
words_injective [] [] e = refl
words_injective [] (w ∷ ws) e = cc
words_injective (v ∷ vs) [] e = cc
words_injective (v ∷ vs) (w ∷ ws) e =
    ap (λ (u : Factors). u ∷ vs) (front e) ∙ ap (λ (us : List Factors). w ∷ us) (words_injective vs ws (behind e))
  where
    behind : {v w : Option Value} {p q : List (Option Value)} → v ∷ p ≡ w ∷ q → p ≡ q
    behind h = cc

    front : {v w : Factors} {p q : List (Option Value)} → Some (word_value v) ∷ p ≡ Some (word_value w) ∷ q → v ≡ w
    front h = cc

-- the text lists one list of words
pub one_list_of_words : (given : Fields) (words others : List Factors) → HasWords given words → HasWords given others → words ≡ others
one_list_of_words given words others a b =
    let list = list_same (some_value (sym a ∙ b)) in
    words_injective words others (places_of-injective _ _ (sym (list_of_words-places_of words) ∙ (list ∙ list_of_words-places_of others)))

-- ---- what they mean

-- what a word means, or its fault
abbrev Meant : Type 0
Meant = Result (List ℕ) WordFault

first_same : {a b : Meant} {p q : List Meant} → a ∷ p ≡ b ∷ q → a ≡ b
first_same e = cc

others_same : {a b : Meant} {p q : List Meant} → a ∷ p ≡ b ∷ q → p ≡ q
others_same e = cc

ok_same : {v w : List ℕ} → ◌≡◌ {A = Meant} (Ok v) (Ok w) → v ≡ w
ok_same e = cc

no_ok : {v : List ℕ} {fault : WordFault} → ◌≡◌ {A = Meant} (Ok v) (Err fault) → ⊥
no_ok e = cc

oks_same : (vs ws : List (List ℕ)) → ◌≡◌ {A = List Meant} (map Ok vs) (map Ok ws) → vs ≡ ws
oks_same [] [] e = refl
oks_same [] (w ∷ ws) e = cc
oks_same (v ∷ vs) [] e = cc
oks_same (v ∷ vs) (w ∷ ws) e =
    ap (λ (u : List ℕ). u ∷ vs) (ok_same (first_same e)) ∙ ap (λ (us : List (List ℕ)). w ∷ us) (oks_same vs ws (others_same e))

no_weights : (n : ℕ) (weights : List ℕ) → orders.ShortLex ≡ orders.WtLex weights → length weights ≡ n
no_weights n weights is = cc

-- the letters of a word's meaning are generators, as those of an equation's sides are
word_over : (names : List (List ℕ)) (inverses : List (Option ℕ)) → AreMutual inverses → length inverses ≡ length names
    → (word : Factors) (generator : List ℕ) → word_meaning names inverses word ≡ Ok generator → IsOver (length names) generator
word_over names inverses both_ways one_each word generator means = (presents.letters (generator, generator) (0, refl)).0
  where
    sides : List (Factors × Factors)
    sides = (word, word) ∷ []

    are : AreEquations names inverses (list_of_equations sides) ((generator, generator) ∷ [])
    are = record { sides = sides; listed = refl; meanings = (means, means, refl) }

    presents : IsPresentation (length names) orders.ShortLex names inverses ((generator, generator) ∷ [])
    presents =
        equations_over names inverses both_ways one_each (length names) orders.ShortLex (list_of_equations sides) ((generator, generator) ∷ []) refl
        (no_weights (length names)) are

module _ (parts : PresentationParts) where
  abbrev meaning : Factors → Meant
  meaning word = word_meaning parts.names parts.inverses word

  -- words mean one list of generators
  pub one_meaning : (words : List Factors) (vs ws : List (List ℕ)) → Mean parts words vs → Mean parts words ws → vs ≡ ws
  one_meaning words vs ws a b = oks_same vs ws (sym a ∙ b)

  -- a word that means something has no fault
  no_fault_here : (word other : Factors) (generator : List ℕ) (e : SubError) → meaning word ≡ Ok generator → Some word ≡ Some other → IsFaultOf (meaning other) e → ⊥
  no_fault_here word other generator e is same fault =
      let P : Factors → Type 0 = λ x. IsFaultOf (meaning x) e in
      let here = subst P (sym (same_Some word other same)) fault in
      no_ok (sym is ∙ here.1)

  none_at : (e : SubError) (words : List Factors) (generators : List (List ℕ)) (k : ℕ) → Mean parts words generators → (word : Factors)
      → slice_get words k ≡ Some word → IsFaultOf (meaning word) e → ⊥
  none_at e [] generators k mean word stands fault = cc
  none_at e (w ∷ words) [] k mean word stands fault = cc
  none_at e (w ∷ words) (g ∷ generators) zero mean word stands fault = no_fault_here w word g e (first_same mean) stands fault
  none_at e (w ∷ words) (g ∷ generators) (suc k) mean word stands fault = none_at e words generators k (others_same mean) word stands fault

  -- none of those that mean something has a fault
  pub none_faulty : (words : List Factors) (generators : List (List ℕ)) (k : ℕ) (e : SubError) → Mean parts words generators → HasFaultAt parts words k e → ⊥
  none_faulty words generators k e mean fault = none_at e words generators k mean fault.word fault.stands fault.fault

  -- their letters are generators of the presentation
  pub all_over : AreMutual parts.inverses → length parts.inverses ≡ length parts.names
      → (words : List Factors) (generators : List (List ℕ)) → Mean parts words generators → All (IsOver (length parts.names)) generators
  all_over both_ways one_each [] [] mean = All-nil (IsOver (length parts.names))
  all_over both_ways one_each [] (g ∷ generators) mean = cc
  all_over both_ways one_each (w ∷ words) [] mean = cc
  all_over both_ways one_each (w ∷ words) (g ∷ generators) mean =
      All-cons (IsOver (length parts.names)) g generators (word_over parts.names parts.inverses both_ways one_each w g (first_same mean))
      (all_over both_ways one_each words generators (others_same mean))

  -- no word before this place has a fault
  abbrev pub NoneBefore : List Factors → ℕ → Type 0
  NoneBefore words n = (k : ℕ) (e : SubError) → k < n → HasFaultAt parts words k e → ⊥

  module _ (words : List Factors) (k : ℕ) (word : Factors) (at : slice_get words k ≡ Some word) where
    -- one more word, and what it means
    pub mean_more : (generators more : List (List ℕ)) (generator : List ℕ) → Mean parts (take k words) generators
        → meaning word ≡ Ok generator → more ≡ generators ++ generator ∷ [] → Mean parts (take (k + 1) words) more
    mean_more generators more generator before is longer =
        let within = slice_get_within words k word at in
        let here = get_or_from_slice_get words k word word at in
        ap (map meaning) (take_more words k word within)
        ∙ (ap (λ (w : Factors). map meaning (take k words ++ w ∷ [])) here
        ∙ (map-append meaning (take k words) (word ∷ [])
        ∙ (ap (λ (rs : List Meant). rs ++ meaning word ∷ []) before
        ∙ (ap (λ (r : Meant). map Ok generators ++ r ∷ []) is
        ∙ (sym (map-append Ok generators (generator ∷ [])) ∙ ap (map Ok) (sym longer))))))

    -- it has no fault
    pub none_more : (generator : List ℕ) → NoneBefore words k → meaning word ≡ Ok generator → NoneBefore words (k + 1)
    none_more generator before is j e less fault = elim (cases_lt j k) [
      | inl sooner ↦ before j e sooner fault
      | inr last ↦ here (omega (arith, last, less))
    ]
      where
        here : j ≡ k → ⊥
        here same =
            let P : ℕ → Type 0 = λ i. slice_get words i ≡ Some fault.word in
            no_fault_here word fault.word generator e is (sym at ∙ subst P same fault.stands) fault.fault

    -- its fault is the first of the list
    pub word_fault : NoneBefore words k → (error : SubError) → IsMemoryOr (IsFaultOf (meaning word)) error
        → IsMemoryOr (IsFirstFault ◌<◌ (HasFaultAt parts words)) error
    word_fault before error fault =
        memory_or_weaker (IsFaultOf (meaning word)) (IsFirstFault ◌<◌ (HasFaultAt parts words))
        (λ e has. record {
          check = k;
          found = record { word = word; stands = at; fault = has };
          first = λ j other less found. before j other less found;
        }) error fault

-- ---- places

-- what stands at the places of a list of words
pub places_are : (value : Value) (words : List Factors) → value ≡ list_value (list_of_words words) → listed value ≡ map (λ (word : Factors). Some (word_value word)) words
places_are value words is =
    listed-is value (map (λ (word : Factors). Some (word_value word)) words) (is ∙ ap list_value (list_of_words-places_of words))

-- the word at a place
pub record WordAt (words : List Factors) (k : ℕ) (p : Option Value) : Type 0 where
  pub word : Factors
  pub at : slice_get words k ≡ Some word
  pub is : p ≡ Some (word_value word)

at_place : (words : List Factors) (k : ℕ) (p : Option Value) → slice_get (map (λ (word : Factors). Some (word_value word)) words) k ≡ Some p → WordAt words k p
at_place [] k p stands = cc
at_place (w ∷ words) zero p stands = record { word = w; at = refl; is = sym (inside stands) }
  where
    inside : {v w : Option Value} → Some v ≡ Some w → v ≡ w
    inside e = cc
at_place (w ∷ words) (suc k) p stands =
    let rest = at_place words k p stands in record { word = rest.word; at = rest.at; is = rest.is }

pub word_here : (value : Value) (words : List Factors) (k : ℕ) (p : Option Value) → value ≡ list_value (list_of_words words)
    → slice_get (listed value) k ≡ Some p → WordAt words k p
word_here value words k p is stands =
    let P : List (Option Value) → Type 0 = λ ps. slice_get ps k ≡ Some p in at_place words k p (subst P (places_are value words is) stands)

-- a value has as many words as places
pub words_counted : (value : Value) (words : List Factors) → value ≡ list_value (list_of_words words) → length words ≡ length (listed value)
words_counted value words is =
    sym (length-map words (λ (word : Factors). Some (word_value word))) ∙ ap length (sym (places_are value words is))

-- the first places hold words
pub record AreWordsBefore (value : Value) (k : ℕ) : Type 0 where
  pub words : List Factors
  pub are : take k (listed value) ≡ map (λ (word : Factors). Some (word_value word)) words

pub no_words_yet : (value : Value) → AreWordsBefore value 0
no_words_yet value = record { words = []; are = refl }

pub one_word_more : (value : Value) (k : ℕ) (p : Option Value) (word : Factors) → slice_get (listed value) k ≡ Some p → p ≡ Some (word_value word)
    → AreWordsBefore value k → AreWordsBefore value (k + 1)
one_word_more value k p word stands is before = record {
  words = before.words ++ word ∷ [];
  are = one_place_more (λ (w : Factors). Some (word_value w)) (listed value) k p stands before.words (before.words ++ word ∷ []) word before.are is refl;
}

pub same_word : {v w : Factors} → Some (word_value v) ≡ Some (word_value w) → v ≡ w
same_word e = cc
