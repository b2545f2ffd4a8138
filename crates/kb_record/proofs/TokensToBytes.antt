-- From what is read of the tokens to what the bytes are.
use Rattle.std.proofs.Common.{◌≡◌, ℕ, ◌≤◌, List, [], ◌∷◌, ◌++◌, Bool, true, false, Option, Some, None, inl, inr, refl, ap, ◌∙◌, subst, append-nil}
use Rattle.std.specs.Prelude.{IsTrue, unwrap_or}
use Rattle.kb_lexing.specs.Token.{Token, semicolon}
use Rattle.kb_lexing.specs.Spelling.{TokensOf}
use Rattle.kb_record.specs.Tree.{Factors, Fields, TextTree}
use Rattle.kb_record.specs.Grammar.{IsText, TextOf, WordOf, word_tokens}
use Rattle.kb_record.specs.Nesting.{deepest, word_nesting, text_nesting}
use Rattle.kb_record.specs.View.{text_view, rec_view}
use Rattle.kb_record.specs.Reading.{Reading, read, unexpected, too_deep, and_then, behind, read_word, read_text, read_ended, skip_semicolon, finished}
use Rattle.kb_record.specs.declared.tree.Rec.{Rec as RecType}
use Rattle.kb_record.specs.declared.cursor.Mark.TheVariants.{Semicolon}
use Rattle.kb_record.proofs.PassedMarks.{behind-is}
use Rattle.kb_record.proofs.ReadingForms.{Stands, Meets}
use Rattle.kb_record.proofs.WordForms.{word_form, word_meets}
use Rattle.kb_record.proofs.TextForms.{Named, text_form, tree_of, TextMeets, text_meets}
use Rattle.kb_record.proofs.Unique.{TextEnd}
use Rattle.kb_lexing.proofs.FrontTokens.{tokens_of, tokens_are}

-- what is known of the bytes and whether they have tokens
pub record LexedOf (bytes : List ℕ) (whole : Bool) : Type 0 where
  pub all : IsTrue whole → (tokens : List Token) × TokensOf bytes tokens
  pub none : whole ≡ false → (tokens : List Token) → TokensOf bytes tokens → ⊥

-- the first tokens of bytes that have tokens are all of them
spelled_whole : (bytes : List ℕ) (whole : Bool) → LexedOf bytes whole → IsTrue whole → TokensOf bytes (tokens_of bytes)
spelled_whole bytes whole lexed e =
    let found = lexed.all e in
    let P : List Token → Type 0 = λ ts. TokensOf bytes ts in
    subst P (tokens_are bytes found.0 found.1) found.1

abbrev pub rest_of : {A : Type 0} → Reading A → List Token
rest_of (read tree rest) = rest
rest_of (unexpected expected rest) = rest
rest_of (too_deep rest) = rest

abbrev pub tree_or : {A : Type 0} → A → Reading A → A
tree_or tree (read found rest) = found
tree_or tree _ = tree

-- what is read up to the end is read of all tokens, which are those of the whole text
pub read_to_end : {A : Type 0} (whole : Bool) (reading : Reading A) (a : A) (rest : List Token) → finished whole reading ≡ read a rest → (reading ≡ read a []) × IsTrue whole
read_to_end true (read found []) a rest e = (ap (λ x. read x []) (ap (tree_or found) e), refl)
read_to_end false (read found []) a rest e = cc
read_to_end true (read found (t ∷ ts)) a rest e = cc
read_to_end false (read found (t ∷ ts)) a rest e = cc
read_to_end whole (unexpected expected left) a rest e = cc
read_to_end whole (too_deep left) a rest e = cc

-- ---- words

word_stands : (tokens rest : List Token) (fs : Factors) → read_word deepest tokens ≡ read fs rest → Stands word_form deepest tokens rest fs
word_stands tokens rest fs e = let P : Reading Factors → Type 0 = λ r. Meets word_form deepest 65 tokens r in subst P e (word_meets deepest tokens)

pub word_read : (bytes : List ℕ) (whole : Bool) (fs : Factors) (rest : List Token) → LexedOf bytes whole → finished whole (read_word deepest (tokens_of bytes)) ≡ read fs rest → WordOf bytes fs
word_read bytes whole fs rest lexed e =
    let h = read_to_end whole (read_word deepest (tokens_of bytes)) fs rest e in
    let stands = word_stands (tokens_of bytes) [] fs h.0 in
    record { tokens = tokens_of bytes; spelled = spelled_whole bytes whole lexed h.1; formed = (stands.good, stands.whole ∙ append-nil (word_tokens fs)) }

pub word_shallow : (whole : Bool) (tokens rest : List Token) (fs : Factors) → finished whole (read_word deepest tokens) ≡ read fs rest → word_nesting fs ≤ deepest
word_shallow whole tokens rest fs e = (word_stands tokens [] fs (read_to_end whole (read_word deepest tokens) fs rest e).0).shallow

-- ---- texts

skipped : (rest : List Token) (o : Option (List Token)) → behind Semicolon rest ≡ o → unwrap_or o rest ≡ [] → TextEnd rest
skipped rest None e f = inl f
skipped rest (Some left) e f = inr (behind-is Semicolon rest left e ∙ ap (λ ts. semicolon ∷ ts) f)

-- what was read behind a text and its semicolon
ended : (d : ℕ) (tokens : List Token) (t : Named) (reading : Reading Named) → TextMeets d tokens reading → and_then reading (λ text rest. read text (skip_semicolon rest)) ≡ read t [] → (rest : List Token) × Stands text_form d tokens rest t × TextEnd rest
ended d tokens t (read found rest) h e =
    let P : Named → Type 0 = λ x. Stands text_form d tokens rest x in
    (rest, subst P (ap (tree_or found) e) h, skipped rest (behind Semicolon rest) refl (ap rest_of e))
ended d tokens t (unexpected expected rest) h e = cc
ended d tokens t (too_deep rest) h e = cc

is_text : (tokens rest : List Token) (t : Named) → Stands text_form deepest tokens rest t → TextEnd rest → IsText tokens (tree_of t)
is_text tokens rest t h (inl e) = (h.good, inl (h.whole ∙ ap (λ ts. text_form.spelled t ++ ts) e ∙ append-nil (text_form.spelled t)))
is_text tokens rest t h (inr e) = (h.good, inr (h.whole ∙ ap (λ ts. text_form.spelled t ++ ts) e))

pub text_read : (bytes : List ℕ) (whole : Bool) (t : Named) (left : List Token) → LexedOf bytes whole → finished whole (read_ended deepest (tokens_of bytes)) ≡ read t left → TextOf bytes (tree_of t)
text_read bytes whole t left lexed e =
    let h = read_to_end whole (read_ended deepest (tokens_of bytes)) t left e in
    let found = ended deepest (tokens_of bytes) t (read_text deepest (tokens_of bytes)) (text_meets deepest (tokens_of bytes)) h.0 in
    record { tokens = tokens_of bytes; spelled = spelled_whole bytes whole lexed h.1; formed = is_text (tokens_of bytes) found.0 t found.1 found.2 }

pub text_shallow : (whole : Bool) (tokens left : List Token) (t : Named) → finished whole (read_ended deepest tokens) ≡ read t left → text_nesting (tree_of t) ≤ deepest
text_shallow whole tokens left t e =
    let h = read_to_end whole (read_ended deepest tokens) t left e in
    (ended deepest tokens t (read_text deepest tokens) (text_meets deepest tokens) h.0).1.shallow

pub text_alike : (text : RecType) → tree_of (rec_view text) ≡ text_view text
text_alike text = refl
