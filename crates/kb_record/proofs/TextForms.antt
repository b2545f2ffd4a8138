-- What reading a text tells of the tokens.
use Rattle.std.proofs.Common.{◌≡◌, ℕ, suc, ◌+◌, List, [], ◌∷◌, ◌++◌, Option, Some, None, refl, sym, ap, ◌∙◌, arith, append-nil}
use Rattle.kb_lexing.specs.Token.{Token, name, assign, rec_word, open_round, close_round}
use Rattle.kb_lexing.specs.declared.place.Expected.{Expected}
use Rattle.kb_lexing.specs.declared.place.Expected.TheVariants as wanted
use Rattle.kb_record.specs.Tree.{Value, TextTree}
use Rattle.kb_record.specs.Grammar.{AreFields, field_tokens}
use Rattle.kb_record.specs.Nesting.{open_behind, fields_nesting}
use Rattle.kb_record.specs.Reading.{Reading, read, unexpected, too_deep, behind, past, reading_map, read_text, read_fields, fields_from}
use Rattle.kb_record.specs.declared.cursor.Mark.TheVariants.{Assign, OpenRound, Rec}
use Rattle.kb_record.proofs.PassedMarks.{behind-is}
use Rattle.kb_record.proofs.ReadingForms.{Form, Begins, MayStand, Stands, Stuck, Deepens, Meets, meets_in}
use Rattle.kb_record.proofs.ValueForms.{fields_meets, one_deeper}
use Rattle.kb_record.proofs.ValueParts.{fields_form}

-- a text's name and fields
abbrev pub Named : Type 0
Named = List ℕ × List (List ℕ × Value)

abbrev pub text_form : Form Named
text_form = record {
  spelled = λ (t : Named). name t.0 ∷ assign ∷ rec_word ∷ open_round ∷ (field_tokens (fields_from t.1) ++ close_round ∷ []);
  Good = λ (t : Named). AreFields (fields_from t.1);
  nesting = λ (t : Named). suc (fields_nesting (fields_from t.1));
}

abbrev pub tree_of : Named → TextTree
tree_of t = record { title = t.0; fields = fields_from t.1 }

-- how the reading of a text can't go on: within it, behind its `:=`, or behind its `rec`
pub data TextStuck (d : ℕ) (expected : Expected) (tokens rest : List Token) : Type 0 where
  within : Stuck text_form (suc d) expected tokens rest → TextStuck d expected tokens rest
  no_rec : (title : List ℕ) → tokens ≡ name title ∷ assign ∷ rest → expected ≡ wanted.Rec → TextStuck d expected tokens rest
  no_opening : (title : List ℕ) → tokens ≡ name title ∷ assign ∷ rec_word ∷ rest → expected ≡ wanted.Mark → TextStuck d expected tokens rest

abbrev pub TextMeets : ℕ → List Token → Reading Named → Type 0
TextMeets d tokens (read text rest) = Stands text_form d tokens rest text
TextMeets d tokens (unexpected expected rest) = TextStuck d expected tokens rest
TextMeets d tokens (too_deep rest) = Deepens text_form (suc d) tokens rest

text_met : (d : ℕ) (tokens : List Token) (reading : Reading Named) → Meets text_form d (suc d) tokens reading → TextMeets d tokens reading
text_met d tokens (read text rest) h = h
text_met d tokens (unexpected expected rest) h = within h
text_met d tokens (too_deep rest) h = h

inside_text : (d : ℕ) (title : List ℕ) (tokens inside : List Token) → tokens ≡ name title ∷ assign ∷ rec_word ∷ open_round ∷ inside → TextMeets d tokens (reading_map (λ fields. (title, fields)) (read_fields d inside))
inside_text d title tokens inside w =
    text_met d tokens _
    (meets_in fields_form text_form (name title ∷ assign ∷ rec_word ∷ open_round ∷ []) 1 d d d (suc d) (λ fields. (title, fields)) tokens inside (read_fields d inside)
    (record {
      spelled = λ fs good. ap (λ ts. name title ∷ assign ∷ rec_word ∷ open_round ∷ ts) (sym (append-nil (field_tokens (fields_from fs) ++ close_round ∷ [])));
      good = λ fs good. good;
      opens = λ o ts. (let e : suc o ≡ o + 1 = omega arith in ap (λ m. open_behind m ts) e);
      low = λ m o ts le w. (omega arith, (omega arith, (omega arith, (omega arith, one_deeper m o ts w))));
      plain = tt;
      unrec = λ h. h;
    }) (omega arith) w (λ fs le. le) (fields_meets d inside))

opening_text : (d : ℕ) (title : List ℕ) (tokens opening : List Token) (o : Option (List Token)) → behind OpenRound opening ≡ o → tokens ≡ name title ∷ assign ∷ rec_word ∷ opening
    → TextMeets d tokens (past wanted.Mark opening o (λ inside. reading_map (λ fields. (title, fields)) (read_fields d inside)))
opening_text d title tokens opening None e w = no_opening title w refl
opening_text d title tokens opening (Some inside) e w = inside_text d title tokens inside (w ∙ ap (λ ts. name title ∷ assign ∷ rec_word ∷ ts) (behind-is OpenRound opening inside e))

others_text : (d : ℕ) (title : List ℕ) (tokens others : List Token) (o : Option (List Token)) → behind Rec others ≡ o → tokens ≡ name title ∷ assign ∷ others
    → TextMeets d tokens (past wanted.Rec others o (λ opening. past wanted.Mark opening (behind OpenRound opening) (λ inside. reading_map (λ fields. (title, fields)) (read_fields d inside))))
others_text d title tokens others None e w = no_rec title w refl
others_text d title tokens others (Some opening) e w = opening_text d title tokens opening (behind OpenRound opening) refl (w ∙ ap (λ ts. name title ∷ assign ∷ ts) (behind-is Rec others opening e))

assign_others : (title : List ℕ) (token : Token) → MayStand wanted.Assign token → Begins text_form (name title ∷ token ∷ [])
assign_others title assign may = record { more = rec_word ∷ open_round ∷ close_round ∷ []; plain = (tt, (tt, (tt, tt))); tree = (title, []); good = tt; formed = refl }
assign_others title _ may = absurd may

no_assign : (d : ℕ) (title : List ℕ) (tokens rest : List Token) → tokens ≡ name title ∷ rest → Stuck text_form (suc d) wanted.Assign tokens rest
no_assign d title tokens rest w = record {
  kept = name title ∷ [];
  whole = w;
  begun = record { more = assign ∷ rec_word ∷ open_round ∷ close_round ∷ []; plain = (tt, (tt, (tt, (tt, tt)))); tree = (title, []); good = tt; formed = refl };
  others = assign_others title;
  low = λ m o le. (omega arith, (omega arith, tt));
  numbered = λ never. cc;
  unrec = λ h. h;
  not_rec = λ never. cc;
}

title_text : (d : ℕ) (title : List ℕ) (tokens rest : List Token) (o : Option (List Token)) → behind Assign rest ≡ o → tokens ≡ name title ∷ rest
    → TextMeets d tokens
    (past wanted.Assign rest o (λ others. past wanted.Rec others (behind Rec others) (λ opening. past wanted.Mark opening (behind OpenRound opening) (λ inside. reading_map (λ fields. (title, fields)) (read_fields d inside)))))
title_text d title tokens rest None e w = within (no_assign d title tokens rest w)
title_text d title tokens rest (Some others) e w = others_text d title tokens others (behind Rec others) refl (w ∙ ap (λ ts. name title ∷ ts) (behind-is Assign rest others e))

title_others : (token : Token) → MayStand wanted.Name token → Begins text_form (token ∷ [])
title_others (name title) may = record { more = assign ∷ rec_word ∷ open_round ∷ close_round ∷ []; plain = (tt, (tt, (tt, (tt, tt)))); tree = (title, []); good = tt; formed = refl }
title_others _ may = absurd may

no_title : (d : ℕ) (tokens : List Token) → Stuck text_form (suc d) wanted.Name tokens tokens
no_title d tokens = record {
  kept = [];
  whole = refl;
  begun = record { more = name (97 ∷ []) ∷ assign ∷ rec_word ∷ open_round ∷ close_round ∷ []; plain = (refl, (tt, (tt, (tt, (tt, tt))))); tree = (97 ∷ [], []); good = tt; formed = refl };
  others = title_others;
  low = λ m o le. (omega arith, tt);
  numbered = λ never. cc;
  unrec = λ h. h;
  not_rec = λ never. cc;
}

pub text_meets : (d : ℕ) (tokens : List Token) → TextMeets d tokens (read_text d tokens)
text_meets d (name title ∷ rest) = title_text d title (name title ∷ rest) rest (behind Assign rest) refl refl
text_meets d [] = within (no_title d [])
text_meets d (token ∷ rest) = within (no_title d (token ∷ rest))
