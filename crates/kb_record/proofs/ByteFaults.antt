-- The fault of bytes that are refused.
use Rattle.std.proofs.Common.{◌≡◌, inl, inr, ℕ, ◌-◌, List, [], ◌∷◌, length, Bool, true, false, Option, Some, None, Err, refl, sym, ap, subst, arith, length-append}
use Rattle.kb_lexing.specs.Token.{Token}
use Rattle.kb_lexing.specs.Possible.{IsPlace, PassedAre, rest_behind, last_place_of}
use Rattle.kb_lexing.specs.declared.place.Expected.{Expected}
use Rattle.kb_lexing.specs.declared.place.Expected.TheVariants as wanted
use Rattle.kb_lexing.specs.declared.token.Lexeme.{Lexeme}
use Rattle.kb_lexing.proofs.FrontTokens.{tokens_of, tokens_are}
use Rattle.kb_lexing.proofs.LongestPossible.{longest_possible}
use Rattle.kb_record.specs.Grammar.{IsTextForm, IsWordForm}
use Rattle.kb_record.specs.Nesting.{deepest, open_behind}
use Rattle.kb_record.specs.Faults.{IsSyntaxFault, IsDepthFault, HasFault, HasTextFault, HasTreeFault}
use Rattle.kb_record.specs.View.{word_view, rec_view}
use Rattle.kb_record.specs.Reading.{Reading, read, unexpected, too_deep, Parse, Reads, Says, StandsBehind, finished, read_word, read_ended}
use Rattle.kb_record.specs.declared.cursor.Stop.{Stop}
use Rattle.kb_record.specs.declared.cursor.Stop.TheVariants.{Unexpected, TooDeep, Memory}
use Rattle.kb_record.specs.declared.error.RecordError.{RecordError}
use Rattle.kb_record.specs.declared.error.RecordError.TheVariants as errors
use Rattle.kb_record.proofs.TokensToBytes.{LexedOf}
use Rattle.kb_record.proofs.Elsewhere.{Ground, Any, Kept}
use Rattle.kb_record.proofs.KeptWords.{kept_word}
use Rattle.kb_record.proofs.Halting.{Goes, Completes, Raw, halts}
use Rattle.kb_record.proofs.FormFaults.{Deep, stops_of, passes_of, none_deep, depth_fault}
use Rattle.kb_record.proofs.RawForms.{word_complete, word_raw, word_deep, text_complete, text_raw, text_deep, kept_ended}

-- what is read up to the end can't go on where the reading can't, or where tokens are left
finished_goes : {A : Type 0} (whole : Bool) (reading : Reading A) (expected : Expected) (rest : List Token) → finished whole reading ≡ unexpected expected rest → Goes expected reading rest
finished_goes true (read a []) expected rest e = cc
finished_goes false (read a []) expected rest e = let mark : wanted.Mark ≡ expected = cc in let same : [] ≡ rest = cc in inr (a, ap (read a) same, sym mark)
finished_goes true (read a (t ∷ ts)) expected rest e = let mark : wanted.Mark ≡ expected = cc in let same : t ∷ ts ≡ rest = cc in inr (a, ap (read a) same, sym mark)
finished_goes false (read a (t ∷ ts)) expected rest e = let mark : wanted.Mark ≡ expected = cc in let same : t ∷ ts ≡ rest = cc in inr (a, ap (read a) same, sym mark)
finished_goes whole (unexpected other left) expected rest e = inl e
finished_goes whole (too_deep left) expected rest e = cc

finished_deep : {A : Type 0} (whole : Bool) (reading : Reading A) (rest : List Token) → finished whole reading ≡ too_deep rest → reading ≡ too_deep rest
finished_deep true (read a []) rest e = cc
finished_deep false (read a []) rest e = cc
finished_deep true (read a (t ∷ ts)) rest e = cc
finished_deep false (read a (t ∷ ts)) rest e = cc
finished_deep whole (unexpected other left) rest e = cc
finished_deep whole (too_deep left) rest e = e

-- what is read to its end isn't refused where the tokens are those of the whole text
not_refused : {A : Type 0} (whole : Bool) (reading : Reading A) (expected : Expected) (rest : List Token) → (whole ≡ false → ⊥) → Completes reading → finished whole reading ≡ unexpected expected rest → ⊥
not_refused false reading expected rest all done e = all refl
not_refused true (read a []) expected rest all done e = cc
not_refused true (read a (t ∷ ts)) expected rest all done e = cc
not_refused true (unexpected other left) expected rest all done e = done
not_refused true (too_deep left) expected rest all done e = cc

module _ {A : Type 0} (HasForm : List Token → Type 0) (P : Parse A) (kept : (g : Ground) → Kept g (Any g) P) (complete : (tokens : List Token) → HasForm tokens → Completes (P tokens))
    (raw : (tokens rest : List Token) (expected : Expected) → Goes expected (P tokens) rest → Raw HasForm tokens expected rest) (deeper : (tokens rest : List Token) → P tokens ≡ too_deep rest → Deep HasForm tokens rest)
    (bytes : List ℕ) (whole : Bool) (lexed : LexedOf bytes whole) where
  syntax_fault : (rest : List Token) (expected : Expected) (at : ℕ) (last : Option Lexeme) → finished whole (P (tokens_of bytes)) ≡ unexpected expected rest → StandsBehind bytes (length (tokens_of bytes) - length rest) last → IsPlace bytes last expected at → IsSyntaxFault HasForm bytes at
  syntax_fault rest expected at last e stand place =
      let h = halts HasForm P kept complete raw (tokens_of bytes) rest expected (finished_goes whole (P (tokens_of bytes)) expected rest e) in
      let few : length h.passed ≡ length (tokens_of bytes) - length rest = omega (arith, ap length h.whole, length-append h.passed rest) in
      let found = stand h.passed rest h.whole few in
      record {
        none = λ tokens spelled formed. (
            let Q : List Token → Type 0 = HasForm in
            let same = tokens_are bytes tokens spelled in
            not_refused whole (P (tokens_of bytes)) expected rest (λ none. lexed.none none tokens spelled) (complete (tokens_of bytes) (subst Q same formed)) e
            );
        shallow = none_deep HasForm (tokens_of bytes) rest expected h bytes (rest_behind bytes last) found.1 (passes_of bytes h.passed last found.0);
        longest = longest_possible HasForm bytes h.passed last expected at found.0 (stops_of HasForm (tokens_of bytes) rest expected h (rest_behind bytes last) found.1) place;
      }

  depth_at : (rest : List Token) (deep : Deep HasForm (tokens_of bytes) rest) (last : Option Lexeme) → PassedAre bytes deep.consumed last → IsDepthFault HasForm bytes (last_place_of bytes last)
  depth_at rest deep None stand = let opens = deep.opens in let none = ap (open_behind 0) stand in let never : ⊥ = omega arith in absurd never
  depth_at rest deep (Some lexeme) stand = depth_fault HasForm (tokens_of bytes) rest deep bytes lexeme stand

  deep_fault : (rest : List Token) (at : ℕ) (last : Option Lexeme) → finished whole (P (tokens_of bytes)) ≡ too_deep rest → StandsBehind bytes (length (tokens_of bytes) - length rest) last → at ≡ last_place_of bytes last → IsDepthFault HasForm bytes at
  deep_fault rest at last e stand place =
      let deep = deeper (tokens_of bytes) rest (finished_deep whole (P (tokens_of bytes)) rest e) in
      let few : length deep.consumed ≡ length (tokens_of bytes) - length rest = omega (arith, ap length deep.whole, length-append deep.consumed rest) in
      let Q : ℕ → Type 0 = λ n. IsDepthFault HasForm bytes n in
      subst Q (sym place) (depth_at rest deep last (stand deep.consumed rest deep.whole few).0)

  pub byte_fault : {B : Type 0} (view : B → A) (rest : List Token) (count : ℕ) (stop : Stop) (error : RecordError) → Reads (finished whole (P (tokens_of bytes))) view (Err stop) rest → count ≡ length (tokens_of bytes) - length rest → Says bytes count stop error → HasFault HasForm bytes error
  byte_fault view rest count (Unexpected expected) (errors.Syntax at) e few (last, stand, place) = let Q : ℕ → Type 0 = λ n. StandsBehind bytes n last in syntax_fault rest expected at last e (subst Q few stand) place
  byte_fault view rest count TooDeep (errors.TooDeep at) e few (last, stand, place) = let Q : ℕ → Type 0 = λ n. StandsBehind bytes n last in deep_fault rest at last e (subst Q few stand) place
  byte_fault view rest count Memory errors.Memory e few says = tt
  byte_fault view rest count _ _ e few says = absurd says

pub word_fault : (bytes : List ℕ) (whole : Bool) (rest : List Token) (count : ℕ) (stop : Stop) (error : RecordError) → LexedOf bytes whole → Reads (finished whole (read_word deepest (tokens_of bytes))) word_view (Err stop) rest → count ≡ length (tokens_of bytes) - length rest
    → Says bytes count stop error → HasTreeFault bytes error
word_fault bytes whole rest count stop error lexed e few says = byte_fault IsWordForm (read_word deepest) (λ g. kept_word g deepest) word_complete word_raw word_deep bytes whole lexed word_view rest count stop error e few says

pub text_fault : (bytes : List ℕ) (whole : Bool) (rest : List Token) (count : ℕ) (stop : Stop) (error : RecordError) → LexedOf bytes whole → Reads (finished whole (read_ended deepest (tokens_of bytes))) rec_view (Err stop) rest → count ≡ length (tokens_of bytes) - length rest
    → Says bytes count stop error → HasTextFault bytes error
text_fault bytes whole rest count stop error lexed e few says = byte_fault IsTextForm (read_ended deepest) (λ g. kept_ended g deepest) text_complete text_raw text_deep bytes whole lexed rec_view rest count stop error e few says
