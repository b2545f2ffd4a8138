-- Where the reading of words and of texts can't go on.
use Rattle.std.proofs.Common.{◌≡◌, inl, inr, ℕ, suc, ◌≤◌, List, [], ◌∷◌, ◌++◌, length, Option, Some, None, refl, sym, ap, ◌∙◌, subst, arith, length-append, append_assoc, append-nil}
use Rattle.std.specs.Prelude.{unwrap_or}
use Rattle.kb_lexing.specs.Token.{Token, name, assign, open_round, close_round, comma, semicolon, dots, rec_word}
use Rattle.kb_lexing.specs.Possible.{MayBeName}
use Rattle.kb_lexing.specs.declared.place.Expected.{Expected}
use Rattle.kb_lexing.specs.declared.place.Expected.TheVariants as wanted
use Rattle.kb_record.specs.Tree.{Factors, record_value}
use Rattle.kb_record.specs.Grammar.{IsTextForm, IsWordForm, word_tokens, field_tokens, AreFields}
use Rattle.kb_record.specs.Nesting.{deepest, word_nesting, fields_nesting}
use Rattle.kb_record.specs.Reading.{Reading, read, unexpected, too_deep, Parse, and_then, behind, past, reading_map, read_name, read_word, read_text, read_ended, read_fields, skip_semicolon, fields_from}
use Rattle.kb_record.specs.declared.cursor.Mark.TheVariants.{Assign, OpenRound, Rec, Semicolon}
use Rattle.kb_record.proofs.PassedMarks.{behind-is}
use Rattle.kb_record.proofs.LastPassed.{same_split}
use Rattle.kb_record.proofs.LastRec.{EndsInRec, ends_behind, word_unrec}
use Rattle.kb_record.proofs.OpenBrackets.{Within, word_within, value_within}
use Rattle.kb_record.proofs.ReadingForms.{Form, Stands, Begins, Stuck, Deepens, Meets, MayStand, last_of}
use Rattle.kb_record.proofs.WordForms.{word_form, word_meets}
use Rattle.kb_record.proofs.TextForms.{Named, text_form, tree_of, TextStuck, within, no_rec, no_opening, TextMeets, text_meets}
use Rattle.kb_record.proofs.TokensToBytes.{rest_of}
use Rattle.kb_record.proofs.Finds.{Finds}
use Rattle.kb_record.proofs.Unique.{finds_word, finds_text, TextEnd}
use Rattle.kb_record.proofs.Elsewhere.{Ground, Beyond, Along, Past, Same, Any, past_same, past_as, same_as, past_then, same_then, Kept, Marks, both, gone, none, marks, mark_beyond}
use Rattle.kb_record.proofs.KeptTokens.{past_mark, same_mark, kept_name}
use Rattle.kb_record.proofs.KeptWords.{past_map, same_map}
use Rattle.kb_record.proofs.KeptLists.{fields_kept}
use Rattle.kb_record.proofs.Halting.{Opens, Goes, Completes, Raw}
use Rattle.kb_record.proofs.FormFaults.{Deep}

-- ---- a form that is stuck, read or too deep

ends_in_rec : (before : List Token) → EndsInRec (before ++ rec_word ∷ [])
ends_in_rec [] = tt
ends_in_rec (t ∷ []) = tt
ends_in_rec (t ∷ u ∷ before) = ends_in_rec (u ∷ before)

-- no `rec` stands last, unless a name may stand in its place
unrenamed : (HasForm : List Token → Type 0) (expected : Expected) (kept : List Token) → (EndsInRec kept → ⊥) → (before : List Token) → kept ++ last_of expected ≡ before ++ rec_word ∷ [] → (MayBeName rec_word expected → ⊥) → (text : List ℕ) (more : List Token) → HasForm (before ++ name text ∷ more) → ⊥
unrenamed HasForm wanted.Fields kept unrec before e may text more h = may tt
unrenamed HasForm _ kept unrec before e may text more h =
    let P : List Token → Type 0 = EndsInRec in
    unrec (subst P (sym e ∙ append-nil kept) (ends_in_rec before))

module _ {A : Type 0} (HasForm : List Token → Type 0) (F : Form A) (formed : (tree : A) → F.Good tree → HasForm (F.spelled tree)) where
  opens_of : (tokens : List Token) → Begins F tokens → Opens HasForm tokens
  opens_of tokens h = let P : List Token → Type 0 = HasForm in record { more = h.more; plain = h.plain; formed = subst P (sym h.formed) (formed h.tree h.good) }

  pub raw_stuck : (tokens rest : List Token) (expected : Expected) → Stuck F (suc deepest) expected tokens rest → Raw HasForm tokens expected rest
  raw_stuck tokens rest expected h = record {
    kept = h.kept;
    whole = h.whole;
    begun = opens_of (h.kept ++ last_of expected) h.begun;
    others = λ token may. opens_of (h.kept ++ token ∷ []) (h.others token may);
    low = h.low deepest 0 (omega arith);
    numbered = h.numbered;
    not_renamed = unrenamed HasForm expected h.kept h.unrec;
    no_dots = λ e. absurd (h.not_rec e);
  }

  pub deep_of : (tokens rest : List Token) → Deepens F (suc deepest) tokens rest → Deep HasForm tokens rest
  deep_of tokens rest h = record {
    consumed = h.consumed;
    whole = h.whole;
    opens = h.opens 0;
    begun = opens_of h.consumed h.begun;
    low = h.low deepest 0 (omega arith);
  }

-- all of it was read
pub raw_read : (HasForm : List Token → Type 0) (tokens rest spelled : List Token) (expected : Expected) → expected ≡ wanted.Mark → tokens ≡ spelled ++ rest → HasForm spelled → Within deepest 0 (spelled ++ comma ∷ []) → (EndsInRec spelled → ⊥) → Raw HasForm tokens expected rest
raw_read HasForm tokens rest spelled expected mark w formed low unrec =
    let P : Expected → Type 0 = λ x. Raw HasForm tokens x rest in
    let Q : List Token → Type 0 = HasForm in
    subst P (sym mark) (record {
      kept = spelled;
      whole = w;
      begun = record { more = []; plain = tt; formed = subst Q (sym (append-nil (spelled ++ []) ∙ append-nil spelled)) formed };
      others = λ token may. absurd may;
      low = low;
      numbered = λ never. cc;
      not_renamed = unrenamed HasForm wanted.Mark spelled unrec;
      no_dots = λ never. cc;
    })

completes_of : {A : Type 0} (d n : ℕ) (a : A) (reading : Reading A) → Finds d n a [] reading → Completes reading
completes_of d n a (read b rest) h = h.1
completes_of d n a (unexpected expected rest) h = h
completes_of d n a (too_deep rest) h = tt

-- ---- words

pub word_complete : (tokens : List Token) → IsWordForm tokens → Completes (read_word deepest tokens)
word_complete tokens (fs, h) = completes_of deepest (word_nesting fs) fs (read_word deepest tokens) (finds_word deepest tokens fs h)

word_met : (tokens : List Token) (reading : Reading Factors) → read_word deepest tokens ≡ reading → Meets word_form deepest (suc deepest) tokens reading
word_met tokens reading e = let P : Reading Factors → Type 0 = λ r. Meets word_form deepest (suc deepest) tokens r in subst P e (word_meets deepest tokens)

pub word_raw : (tokens rest : List Token) (expected : Expected) → Goes expected (read_word deepest tokens) rest → Raw IsWordForm tokens expected rest
word_raw tokens rest expected (inl e) = raw_stuck IsWordForm word_form (λ fs good. (fs, (good, refl))) tokens rest expected (word_met tokens (unexpected expected rest) e)
word_raw tokens rest expected (inr (fs, e, mark)) =
    let h : Stands word_form deepest tokens rest fs = word_met tokens (read fs rest) e in
    raw_read IsWordForm tokens rest (word_tokens fs) expected mark h.whole (fs, (h.good, refl)) (word_within fs deepest 0 (comma ∷ []) (let shallow = h.shallow in omega arith) (omega arith, tt)) (word_unrec fs)

pub word_deep : (tokens rest : List Token) → read_word deepest tokens ≡ too_deep rest → Deep IsWordForm tokens rest
word_deep tokens rest e = deep_of IsWordForm word_form (λ fs good. (fs, (good, refl))) tokens rest (word_met tokens (too_deep rest) e)

-- ---- texts

text_end_of : (rest : List Token) → TextEnd rest → skip_semicolon rest ≡ []
text_end_of rest (inl e) = ap skip_semicolon e
text_end_of rest (inr e) = ap skip_semicolon e

ended_completes : (d n : ℕ) (t : Named) (rest : List Token) (reading : Reading Named) → TextEnd rest → Finds d n t rest reading → Completes (and_then reading (λ text left. read text (skip_semicolon left)))
ended_completes d n t rest (read found left) end h = ap skip_semicolon h.1 ∙ text_end_of rest end
ended_completes d n t rest (unexpected expected left) end h = h
ended_completes d n t rest (too_deep left) end h = tt

pub text_complete : (tokens : List Token) → IsTextForm tokens → Completes (read_ended deepest tokens)
text_complete tokens (text, h) = let found = finds_text deepest tokens text h in ended_completes deepest _ _ found.0 (read_text deepest tokens) found.1 found.2

-- a text alone
whole_form : (t : Named) → AreFields (fields_from t.1) → IsTextForm (text_form.spelled t)
whole_form t good = (tree_of t, (good, inl refl))

ended_form : (t : Named) → AreFields (fields_from t.1) → IsTextForm (text_form.spelled t ++ semicolon ∷ [])
ended_form t good = (tree_of t, (good, inr refl))

text_within : (t : Named) (tokens : List Token) → text_form.nesting t ≤ deepest → Within deepest 0 tokens → Within deepest 0 (text_form.spelled t ++ tokens)
text_within t tokens shallow w = (omega arith, (omega arith, value_within (record_value (fields_from t.1)) deepest 0 tokens (let le : suc (fields_nesting (fields_from t.1)) ≤ deepest = shallow in omega arith) w))

text_unrec : (t : Named) → EndsInRec (text_form.spelled t) → ⊥
text_unrec t h = ends_behind (name t.0 ∷ assign ∷ rec_word ∷ open_round ∷ field_tokens (fields_from t.1)) close_round [] h

-- behind the name of a text and its mark only a record begins
form_record : (title : List ℕ) (t : Token) (more : List Token) → IsTextForm (name title ∷ assign ∷ t ∷ more) → t ≡ rec_word
form_record title t more (text, (good, inl e)) = cc
form_record title t more (text, (good, inr e)) = cc

form_opening : (title : List ℕ) (t : Token) (more : List Token) → IsTextForm (name title ∷ assign ∷ rec_word ∷ t ∷ more) → t ≡ open_round
form_opening title t more (text, (good, inl e)) = cc
form_opening title t more (text, (good, inr e)) = cc

empty_form : (title : List ℕ) → IsTextForm (name title ∷ assign ∷ rec_word ∷ open_round ∷ close_round ∷ [])
empty_form title = whole_form (title, []) tt

rec_others : (title : List ℕ) (token : Token) → MayStand wanted.Rec token → Opens IsTextForm (name title ∷ assign ∷ token ∷ [])
rec_others title rec_word may = record { more = open_round ∷ close_round ∷ []; plain = (tt, (tt, tt)); formed = empty_form title }
rec_others title _ may = absurd may

raw_no_rec : (title : List ℕ) (tokens rest : List Token) → tokens ≡ name title ∷ assign ∷ rest → Raw IsTextForm tokens wanted.Rec rest
raw_no_rec title tokens rest w = record {
  kept = name title ∷ assign ∷ [];
  whole = w;
  begun = record { more = rec_word ∷ open_round ∷ close_round ∷ []; plain = (tt, (tt, (tt, tt))); formed = empty_form title };
  others = rec_others title;
  low = (omega arith, (omega arith, (omega arith, tt)));
  numbered = λ never. cc;
  not_renamed = unrenamed IsTextForm wanted.Rec (name title ∷ assign ∷ []) (λ h. h);
  no_dots = λ same more h. (let never = form_opening title dots more h in cc);
}

header_unnamed : (title : List ℕ) (before : List Token) → name title ∷ assign ∷ rec_word ∷ [] ≡ before ++ rec_word ∷ [] → (MayBeName rec_word wanted.Mark → ⊥) → (text : List ℕ) (more : List Token) → IsTextForm (before ++ name text ∷ more) → ⊥
header_unnamed title before e may text more h =
    let lengths : length (name title ∷ assign ∷ []) ≡ length before = omega (arith, ap length e, length-append before (rec_word ∷ [])) in
    let split = same_split (name title ∷ assign ∷ []) before (rec_word ∷ []) (rec_word ∷ []) lengths e in
    let P : List Token → Type 0 = λ ts. IsTextForm (ts ++ name text ∷ more) in
    let never = form_record title (name text) more (subst P (sym split.fronts) h) in
    cc

raw_no_opening : (title : List ℕ) (tokens rest : List Token) → tokens ≡ name title ∷ assign ∷ rec_word ∷ rest → Raw IsTextForm tokens wanted.Mark rest
raw_no_opening title tokens rest w = record {
  kept = name title ∷ assign ∷ rec_word ∷ [];
  whole = w;
  begun = record { more = open_round ∷ close_round ∷ []; plain = (tt, (tt, tt)); formed = empty_form title };
  others = λ token may. absurd may;
  low = (omega arith, (omega arith, (omega arith, (omega arith, tt))));
  numbered = λ never. cc;
  not_renamed = header_unnamed title;
  no_dots = λ never. cc;
}

text_stuck : (tokens rest : List Token) (expected : Expected) → TextStuck deepest expected tokens rest → Raw IsTextForm tokens expected rest
text_stuck tokens rest expected (within h) = raw_stuck IsTextForm text_form whole_form tokens rest expected h
text_stuck tokens rest expected (no_rec title w e) = let P : Expected → Type 0 = λ x. Raw IsTextForm tokens x rest in subst P (sym e) (raw_no_rec title tokens rest w)
text_stuck tokens rest expected (no_opening title w e) = let P : Expected → Type 0 = λ x. Raw IsTextForm tokens x rest in subst P (sym e) (raw_no_opening title tokens rest w)

text_ended : (t : Named) (tokens rest left : List Token) (expected : Expected) (o : Option (List Token)) → behind Semicolon left ≡ o → Stands text_form deepest tokens left t → unwrap_or o left ≡ rest → expected ≡ wanted.Mark → Raw IsTextForm tokens expected rest
text_ended t tokens rest left expected None e h w mark =
    raw_read IsTextForm tokens rest (text_form.spelled t) expected mark (h.whole ∙ ap (λ ts. text_form.spelled t ++ ts) w) (whole_form t h.good) (text_within t (comma ∷ []) h.shallow (omega arith, tt)) (text_unrec t)
text_ended t tokens rest left expected (Some after) e h w mark =
    let spelled = text_form.spelled t ++ semicolon ∷ [] in
    let P : List Token → Type 0 = λ ts. Within deepest 0 ts in
    raw_read IsTextForm tokens rest spelled expected mark
    (h.whole ∙ ap (λ ts. text_form.spelled t ++ ts) (behind-is Semicolon left after e ∙ ap (λ ts. semicolon ∷ ts) w) ∙ sym (append_assoc (text_form.spelled t) (semicolon ∷ []) rest)) (ended_form t h.good)
    (subst P (sym (append_assoc (text_form.spelled t) (semicolon ∷ []) (comma ∷ []))) (text_within t (semicolon ∷ comma ∷ []) h.shallow (omega arith, (omega arith, tt)))) (λ ends. ends_behind (text_form.spelled t) semicolon [] ends)

text_goes : (tokens rest : List Token) (expected : Expected) (reading : Reading Named) → TextMeets deepest tokens reading → Goes expected (and_then reading (λ text left. read text (skip_semicolon left))) rest → Raw IsTextForm tokens expected rest
text_goes tokens rest expected (read t left) h (inl e) = cc
text_goes tokens rest expected (read t left) h (inr (t', e, mark)) = text_ended t tokens rest left expected (behind Semicolon left) refl h (ap rest_of e) mark
text_goes tokens rest expected (unexpected other left) h (inl e) =
    let P : Expected → Type 0 = λ x. TextStuck deepest x tokens left in
    let Q : List Token → Type 0 = λ ts. TextStuck deepest expected tokens ts in
    let same : other ≡ expected = cc in
    text_stuck tokens rest expected (subst Q (ap rest_of e) (subst P same h))
text_goes tokens rest expected (unexpected other left) h (inr (t', e, mark)) = cc
text_goes tokens rest expected (too_deep left) h (inl e) = cc
text_goes tokens rest expected (too_deep left) h (inr (t', e, mark)) = cc

pub text_raw : (tokens rest : List Token) (expected : Expected) → Goes expected (read_ended deepest tokens) rest → Raw IsTextForm tokens expected rest
text_raw tokens rest expected goes = text_goes tokens rest expected (read_text deepest tokens) (text_meets deepest tokens) goes

deep_inside : (tokens rest : List Token) (reading : Reading Named) → TextMeets deepest tokens reading → and_then reading (λ text left. read text (skip_semicolon left)) ≡ too_deep rest → Deepens text_form (suc deepest) tokens rest
deep_inside tokens rest (read found left) h e = cc
deep_inside tokens rest (unexpected expected left) h e = cc
deep_inside tokens rest (too_deep left) h e = let P : List Token → Type 0 = λ ts. Deepens text_form (suc deepest) tokens ts in subst P (ap rest_of e) h

pub text_deep : (tokens rest : List Token) → read_ended deepest tokens ≡ too_deep rest → Deep IsTextForm tokens rest
text_deep tokens rest e = deep_of IsTextForm text_form whole_form tokens rest (deep_inside tokens rest (read_text deepest tokens) (text_meets deepest tokens) e)

-- ---- texts, read elsewhere

module _ (g : Ground) (d : ℕ) where
  abbrev inside : List ℕ → Parse Named
  inside title ts = reading_map (λ fields. (title, fields)) (read_fields d ts)

  abbrev opening : List ℕ → Parse Named
  opening title ts = past wanted.Mark ts (behind OpenRound ts) (inside title)

  abbrev recording : List ℕ → Parse Named
  recording title ts = past wanted.Rec ts (behind Rec ts) (opening title)

  abbrev assigning : List ℕ → Parse Named
  assigning title ts = past wanted.Assign ts (behind Assign ts) (recording title)

  inside_past : (title : List ℕ) (ts : List Token) → Beyond g ts → Past g (inside title ts)
  inside_past title ts h = past_map g _ (read_fields d ts) ((fields_kept g d).past ts h)

  opening_past : (title : List ℕ) (ts : List Token) → Beyond g ts → Past g (opening title ts)
  opening_past title ts h = past_mark g OpenRound wanted.Mark ts (inside title) h (inside_past title)

  recording_past : (title : List ℕ) (ts : List Token) → Beyond g ts → Past g (recording title ts)
  recording_past title ts h = past_mark g Rec wanted.Rec ts (opening title) h (opening_past title)

  assigning_past : (title : List ℕ) (ts : List Token) → Beyond g ts → Past g (assigning title ts)
  assigning_past title ts h = past_mark g Assign wanted.Assign ts (recording title) h (recording_past title)

  assigning_same : (a b : List ℕ) (ts us : List Token) → Along g ts us → Same g (Any g) (assigning a ts) (assigning b us)
  assigning_same a b ts us h =
      same_mark g (Any g) Assign wanted.Assign ts us (recording a) (recording b) (inr tt) h (recording_past a)
      (λ r s k. same_mark g (Any g) Rec wanted.Rec r s (opening a) (opening b) (inr tt) k (opening_past a)
      (λ r' s' k'. same_mark g (Any g) OpenRound wanted.Mark r' s' (inside a) (inside b) (inl tt) k' (inside_past a)
      (λ r'' s'' k''. same_map g _ _ (read_fields d r'') (read_fields d s'') ((fields_kept g d).same r'' s'' k''))))

  kept_text : Kept g (Any g) (read_text d)
  kept_text = record {
    past = λ ts h. past_then g (read_name ts) assigning ((kept_name g).past ts h) assigning_past;
    same = λ ts us h. same_then g (Any g) (Any g) (read_name ts) (read_name us) assigning assigning ((kept_name g).same ts us h) assigning_past (λ a b r s e w al. assigning_same a b r s al);
  }

  skip_past : (t : Named) (left : List Token) (o : Option (List Token)) → behind Semicolon left ≡ o → Beyond g left → Beyond g (unwrap_or o left)
  skip_past t left None e h = h
  skip_past t left (Some after) e h = mark_beyond g Semicolon left after e h

  abbrev ending : Named → Parse Named
  ending t left = read t (skip_semicolon left)

  ending_same : (t u : Named) (ts us : List Token) → Along g ts us → Marks g Semicolon ts us → Same g (Any g) (ending t ts) (ending u us)
  ending_same t u ts us h (both r s f f' k) =
      let found : Same g (Any g) (read t r) (read u s) = inr (u, s, refl, tt, k) in
      same_as g (Any g) _ _ _ _ (ap (λ o. read t (unwrap_or o ts)) f) (ap (λ o. read u (unwrap_or o us)) f') found
  ending_same t u ts us h (gone r f beyond) = past_same g (Any g) (ending t ts) (ending u us) (past_as g (ending t ts) (read t r) (ap (λ o. read t (unwrap_or o ts)) f) beyond)
  ending_same t u ts us h (none f f') =
      let found : Same g (Any g) (read t ts) (read u us) = inr (u, us, refl, tt, h) in
      same_as g (Any g) _ _ _ _ (ap (λ o. read t (unwrap_or o ts)) f) (ap (λ o. read u (unwrap_or o us)) (f' (inl tt))) found

  pub kept_ended : Kept g (Any g) (read_ended d)
  kept_ended = record {
    past = λ ts h. past_then g (read_text d ts) ending (kept_text.past ts h) (λ t left k. skip_past t left (behind Semicolon left) refl k);
    same = λ ts us h. same_then g (Any g) (Any g) (read_text d ts) (read_text d us) ending ending (kept_text.same ts us h) (λ t left k. skip_past t left (behind Semicolon left) refl k) (λ t u r s e w al. ending_same t u r s al (marks g Semicolon r s al));
  }
