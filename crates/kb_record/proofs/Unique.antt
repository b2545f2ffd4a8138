-- Tokens have one tree.
use Rattle.std.proofs.Common.{◌≡◌, ℕ, ◌≤◌, max, List, [], ◌∷◌, ◌++◌, ◌⊎◌, inl, inr, ⊎_elim, refl, sym, ap, ◌∙◌, arith, append-nil, append_assoc}
use Rattle.kb_lexing.specs.Token.{Token, name, assign, semicolon, rec_word, open_round, close_round}
use Rattle.kb_record.specs.Tree.{Factors, Value, Fields, TextTree, record_value}
use Rattle.kb_record.specs.Grammar.{IsText, IsWordText, AreFields, word_tokens, value_tokens, field_tokens}
use Rattle.kb_record.specs.Nesting.{word_nesting, text_nesting}
use Rattle.kb_record.specs.Reading.{Reading, read, unexpected, too_deep, read_word, read_text, read_fields, fields_from}
use Rattle.kb_record.proofs.Finds.{Finds, found_as, found_map}
use Rattle.kb_record.proofs.FoundValues.{fields_found, list_of_fields, list_of_fields-is}
use Rattle.kb_record.proofs.FoundWords.{word_found}

both : {A : Type 0} (d n m : ℕ) (a b : A) (rest : List Token) (reading : Reading A) → n ≤ d → Finds d n a rest reading → Finds d m b rest reading → a ≡ b
both d n m a b rest (read found left) le h k = sym h.0 ∙ k.0
both d n m a b rest (unexpected expected left) le h k = absurd h
both d n m a b rest (too_deep left) le h k = let never : ⊥ = omega arith in absurd never

pub finds_word : (d : ℕ) (tokens : List Token) (fs : Factors) → IsWordText tokens fs → Finds d (word_nesting fs) fs [] (read_word d tokens)
finds_word d tokens fs h =
    found_as d _ fs [] _ _ (ap (read_word d) (h.1 ∙ sym (append-nil (word_tokens fs)))) (word_found fs h.0 d [] (record { no_star = refl; no_power = refl }))

pub one_word : (tokens : List Token) (one other : Factors) → IsWordText tokens one → IsWordText tokens other → one ≡ other
one_word tokens one other g h =
    both (word_nesting one) (word_nesting one) (word_nesting other) one other [] (read_word (word_nesting one) tokens) (omega arith) (finds_word (word_nesting one) tokens one g) (finds_word (word_nesting one) tokens other h)

-- what stands behind the record of a text
abbrev pub TextEnd : List Token → Type 0
TextEnd rest = (rest ≡ []) ⊎ (rest ≡ semicolon ∷ [])

finds_text_to : (d : ℕ) (tokens rest : List Token) (text : TextTree) → AreFields text.fields → tokens ≡ name text.title ∷ assign ∷ value_tokens (record_value text.fields) ++ rest
    → Finds d (text_nesting text) (text.title, list_of_fields text.fields) rest (read_text d tokens)
finds_text_to d tokens rest text good e =
    let fields = text.fields in
    found_as d _ _ rest _ _ (ap (read_text d) (e ∙ ap (λ ts. name text.title ∷ assign ∷ rec_word ∷ open_round ∷ ts) (append_assoc (field_tokens fields) (close_round ∷ []) rest)))
    (found_map d (text_nesting text) d (text_nesting text) (list_of_fields fields) (text.title, list_of_fields fields) rest (read_fields d (field_tokens fields ++ close_round ∷ rest)) (λ fs. (text.title, fs)) (λ x. x) refl (fields_found fields good d rest))

pub finds_text : (d : ℕ) (tokens : List Token) (text : TextTree) → IsText tokens text → (rest : List Token) × TextEnd rest × Finds d (text_nesting text) (text.title, list_of_fields text.fields) rest (read_text d tokens)
finds_text d tokens text h =
    ⊎_elim (λ e. ([], inl refl, finds_text_to d tokens [] text h.0 (e ∙ sym (append-nil _)))) (λ e. (semicolon ∷ [], inr refl, finds_text_to d tokens (semicolon ∷ []) text h.0 e)) h.1

both_anyhow : {A : Type 0} (d n m : ℕ) (a b : A) (rest rest' : List Token) (reading : Reading A) → n ≤ d → Finds d n a rest reading → Finds d m b rest' reading → m ≤ d → a ≡ b
both_anyhow d n m a b rest rest' (read found left) le h k le' = sym h.0 ∙ k.0
both_anyhow d n m a b rest rest' (unexpected expected left) le h k le' = absurd h
both_anyhow d n m a b rest rest' (too_deep left) le h k le' = let never : ⊥ = omega arith in absurd never

same_text : (one other : TextTree) → ◌≡◌ {A = List ℕ × List (List ℕ × Value)} (one.title, list_of_fields one.fields) (other.title, list_of_fields other.fields) → one ≡ other
same_text one other e =
    let titles : one.title ≡ other.title = ap (λ (p : List ℕ × List (List ℕ × Value)). p.0) e in
    let fields : one.fields ≡ other.fields = sym (list_of_fields-is one.fields) ∙ ap (λ (p : List ℕ × List (List ℕ × Value)). fields_from p.1) e ∙ list_of_fields-is other.fields in
    let make : List ℕ → Fields → TextTree = λ t fs. record { title = t; fields = fs } in
    ap (λ t. make t one.fields) titles ∙ ap (make other.title) fields

pub one_text : (tokens : List Token) (one other : TextTree) → IsText tokens one → IsText tokens other → one ≡ other
one_text tokens one other g h =
    let d = max (text_nesting one) (text_nesting other) in
    let first = finds_text d tokens one g in
    let second = finds_text d tokens other h in
    same_text one other (both_anyhow d (text_nesting one) (text_nesting other) _ _ first.0 second.0 (read_text d tokens) (omega arith) first.2 second.2 (omega arith))
