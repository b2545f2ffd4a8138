-- What reading a value tells of the tokens.
use Rattle.std.proofs.Common.{◌≡◌, ℕ, zero, suc, ◌+◌, ◌≤◌, ℤ, pos, List, [], ◌∷◌, ◌++◌, Bool, true, false, if◌then◌else◌, Option, Some, None, refl, sym, ap, ◌∙◌, subst, arith, append-nil}
use Rattle.kb_lexing.specs.Token.{Token, name, number, string, assign, open_round, close_round, open_square, close_square, comma, dots, rec_word}
use Rattle.kb_lexing.specs.declared.place.Expected.{Expected}
use Rattle.kb_lexing.specs.declared.place.Expected.TheVariants as wanted
use Rattle.kb_record.specs.Tree.{named, factor, no_factors, Value, number_value, string_value, record_value, list_value, range_value, word_value, no_fields, no_places, place}
use Rattle.kb_record.specs.Grammar.{word_tokens, value_tokens, field_tokens, place_tokens, IsValue, IsPlaceList}
use Rattle.kb_record.specs.Nesting.{open_behind, value_nesting}
use Rattle.kb_record.specs.View.{places_of}
use Rattle.kb_record.specs.Reading.{Reading, read, unexpected, too_deep, Parse, reading_map, behind, past, comma_unless, passes_comma, read_scalar, first_number, begins_word, ends_place, place_with, field_with, fields_from, range_from, list_behind, list_from, read_places, first_place, numbered_list, number_behind, fields_behind, value_behind, read_value, read_list, read_fields, read_word}
use Rattle.kb_record.specs.declared.cursor.Mark.TheVariants.{Assign, OpenRound, CloseRound, OpenSquare, CloseSquare, Comma, Dots, Rec}
use Rattle.kb_record.proofs.PassedMarks.{behind-is}
use Rattle.kb_record.proofs.Depths.{read_value_is}
use Rattle.kb_record.proofs.Balanced.{value_balanced}
use Rattle.kb_record.proofs.OpenBrackets.{Within, value_within}
use Rattle.kb_record.proofs.LastRec.{EndsInRec, value_unrec}
use Rattle.kb_record.proofs.ReadingForms.{Begins, MayStand, Stuck, Meets, Embeds, here, stick, deepen, meets_as, meets_in, map_same, map_twice}
use Rattle.kb_record.proofs.RowForms.{Turns, row_form, row_tokens, more-is, GoodRow, row_meets}
use Rattle.kb_record.proofs.WordForms.{word_form, word_meets}
use Rattle.kb_record.proofs.ValueParts.{value_form, spelled_place, place_nesting, place_form, field_form, inside, IsListOrRange, list_form, fields_form, places_row, more_places-alike, places-alike, row_places, places_nesting-alike, fields-alike, row_fields, fields_nesting-alike}

-- ---- commas

comma_past : (closing : Token) (expected : Expected) (tokens : List Token) (o : Option (List Token)) → behind Comma tokens ≡ o → Turns comma (closing ∷ []) expected tokens (past expected tokens o (λ rest. read true rest))
comma_past closing expected tokens None e = (refl, refl)
comma_past closing expected tokens (Some rest) e = behind-is Comma tokens rest e

comma_to : (closing : Token) (expected : Expected) (tokens : List Token) (o : Option (List Token)) → ((rest : List Token) → o ≡ Some rest → tokens ≡ closing ∷ rest) → Turns comma (closing ∷ []) expected tokens (comma_unless expected tokens o)
comma_to closing expected tokens (Some rest) h = h rest refl
comma_to closing expected tokens None h = comma_past closing expected tokens (behind Comma tokens) refl

square_turns : (expected : Expected) (tokens : List Token) → Turns comma (close_square ∷ []) expected tokens (passes_comma CloseSquare expected tokens)
square_turns expected tokens = comma_to close_square expected tokens (behind CloseSquare tokens) (λ rest e. behind-is CloseSquare tokens rest e)

round_turns : (expected : Expected) (tokens : List Token) → Turns comma (close_round ∷ []) expected tokens (passes_comma CloseRound expected tokens)
round_turns expected tokens = comma_to close_round expected tokens (behind CloseRound tokens) (λ rest e. behind-is CloseRound tokens rest e)

-- ---- places and fields

pub place_to : (d : ℕ) (tokens : List Token) (ended : Bool) (reading : Reading Value) → Meets value_form d (suc d) tokens reading → Meets place_form d (suc d) tokens (if ended then read None tokens else reading_map Some reading)
place_to d tokens true reading h = record { whole = refl; good = tt; shallow = omega arith }
place_to d tokens false reading h = meets_in value_form place_form [] 0 d d (suc d) (suc d) Some tokens tokens reading (here value_form place_form [] (suc d) Some (λ v good. sym (append-nil (value_tokens v))) (λ v good. good) tt) (omega arith) refl (λ v le. le) h

assign_others : (text : List ℕ) (token : Token) → MayStand wanted.Assign token → Begins field_form (name text ∷ token ∷ [])
assign_others text assign may = record { more = number (pos 0) ∷ []; plain = (refl, tt); tree = (text, number_value (pos 0)); good = tt; formed = refl }
assign_others text _ may = absurd may

no_assign : (d : ℕ) (text : List ℕ) (tokens rest : List Token) → tokens ≡ name text ∷ rest → Stuck field_form (suc d) wanted.Assign tokens rest
no_assign d text tokens rest w = record {
  kept = name text ∷ [];
  whole = w;
  begun = record { more = assign ∷ number (pos 0) ∷ []; plain = (tt, (refl, tt)); tree = (text, number_value (pos 0)); good = tt; formed = refl };
  others = assign_others text;
  low = λ m o le. (omega arith, (omega arith, tt));
  numbered = λ never. cc;
  unrec = λ h. h;
  not_rec = λ never. cc;
}

assign_to : (d : ℕ) (text : List ℕ) (tokens rest : List Token) (value : Parse Value) (o : Option (List Token)) → behind Assign rest ≡ o → tokens ≡ name text ∷ rest → ((others : List Token) → Meets value_form d (suc d) others (value others))
    → Meets field_form d (suc d) tokens (past wanted.Assign rest o (λ others. reading_map (λ tree. (text, tree)) (value others)))
assign_to d text tokens rest value None e w h = no_assign d text tokens rest w
assign_to d text tokens rest value (Some others) e w h =
    meets_in value_form field_form (name text ∷ assign ∷ []) 0 d d (suc d) (suc d) (λ tree. (text, tree)) tokens others (value others)
    (record {
      spelled = λ v good. ap (λ ts. name text ∷ assign ∷ ts) (sym (append-nil (value_tokens v)));
      good = λ v good. good;
      opens = λ o ts. (let e : o ≡ o + 0 = omega arith in ap (λ m. open_behind m ts) e);
      low = λ m o ts le w. (omega arith, (omega arith, (let e : o + 0 ≡ o = omega arith in let P : ℕ → Type 0 = λ n. Within m n ts in subst P e w)));
      plain = tt;
      unrec = λ h. h;
    })
    (omega arith) (w ∙ ap (λ ts. name text ∷ ts) (behind-is Assign rest others e)) (λ v le. le) (h others)

field_others : (token : Token) → MayStand wanted.Name token → Begins field_form (token ∷ [])
field_others (name text) may = record { more = assign ∷ number (pos 0) ∷ []; plain = (tt, (refl, tt)); tree = (text, number_value (pos 0)); good = tt; formed = refl }
field_others _ may = absurd may

no_field : (d : ℕ) (tokens : List Token) → Stuck field_form (suc d) wanted.Name tokens tokens
no_field d tokens = record {
  kept = [];
  whole = refl;
  begun = record { more = name (97 ∷ []) ∷ assign ∷ number (pos 0) ∷ []; plain = (refl, (tt, (refl, tt))); tree = (97 ∷ [], number_value (pos 0)); good = tt; formed = refl };
  others = field_others;
  low = λ m o le. (omega arith, tt);
  numbered = λ never. cc;
  unrec = λ h. h;
  not_rec = λ never. cc;
}

pub field_meets : (d : ℕ) (value : Parse Value) → ((others : List Token) → Meets value_form d (suc d) others (value others)) → (tokens : List Token) → Meets field_form d (suc d) tokens (field_with value tokens)
field_meets d value h (name text ∷ rest) = assign_to d text (name text ∷ rest) rest value (behind Assign rest) refl refl h
field_meets d value h [] = no_field d []
field_meets d value h (token ∷ rest) = no_field d (token ∷ rest)

place_balanced : (p : Option Value) (o : ℕ) (ts : List Token) → open_behind o (spelled_place p ++ ts) ≡ open_behind o ts
place_balanced None o ts = refl
place_balanced (Some v) o ts = value_balanced v o ts

place_within : (p : Option Value) (m o : ℕ) (ts : List Token) → o + place_nesting p ≤ m → Within m o ts → Within m o (spelled_place p ++ ts)
place_within None m o ts le w = w
place_within (Some v) m o ts le w = value_within v m o ts le w

place_unrec : (p : Option Value) → EndsInRec (spelled_place p) → ⊥
place_unrec None h = h
place_unrec (Some v) h = value_unrec v h

-- what stands behind the mark of a field isn't `rec`
behind_assign : (text : List ℕ) (ts : List Token) → EndsInRec (name text ∷ assign ∷ ts) → EndsInRec ts
behind_assign text [] h = h
behind_assign text (t ∷ ts) h = h

field_unrec : (f : List ℕ × Value) → EndsInRec (name f.0 ∷ assign ∷ value_tokens f.1) → ⊥
field_unrec f h = value_unrec f.1 (behind_assign f.0 (value_tokens f.1) h)

-- ---- lists

-- a row that isn't the closing bracket alone isn't one empty place
not_one_empty : (ps : List (Option Value)) → GoodRow place_form comma (close_square ∷ []) ps → (row_tokens place_form comma (close_square ∷ []) ps ≡ close_square ∷ [] → ⊥) → IsPlaceList (places_of ps)
not_one_empty [] good h = absurd good
not_one_empty (None ∷ []) good h = absurd (h refl)
not_one_empty (None ∷ None ∷ ps) good h = tt
not_one_empty (None ∷ Some v ∷ ps) good h = tt
not_one_empty (Some v ∷ ps) good h = tt

-- the list with the tokens of a row: one empty place is written as no place
abbrev list_spelled : List (Option Value) → Value
list_spelled (None ∷ []) = list_value no_places
list_spelled ps = list_value (places_of ps)

list_spelled-is : (ps : List (Option Value)) → GoodRow place_form comma (close_square ∷ []) ps → inside (list_spelled ps) ≡ row_tokens place_form comma (close_square ∷ []) ps
list_spelled-is [] good = absurd good
list_spelled-is (None ∷ []) good = refl
list_spelled-is (None ∷ p ∷ ps) good = places-alike (None ∷ p ∷ ps) good
list_spelled-is (Some v ∷ ps) good = places-alike (Some v ∷ ps) good

list_spelled-good : (ps : List (Option Value)) → GoodRow place_form comma (close_square ∷ []) ps → IsListOrRange (list_spelled ps)
list_spelled-good [] good = absurd good
list_spelled-good (None ∷ []) good = (tt, tt)
list_spelled-good (None ∷ None ∷ ps) good = (tt, row_places (None ∷ None ∷ ps) good)
list_spelled-good (None ∷ Some v ∷ ps) good = (tt, row_places (None ∷ Some v ∷ ps) good)
list_spelled-good (Some v ∷ ps) good = (tt, row_places (Some v ∷ ps) good)

row_in_list : (k : ℕ) → Embeds places_row list_form [] [] 0 k list_spelled
row_in_list k = here places_row list_form [] k list_spelled (λ ps good. list_spelled-is ps good ∙ sym (append-nil _)) list_spelled-good tt

row_as_list : (d : ℕ) (tokens : List Token) (reading : Reading (List (Option Value))) → behind CloseSquare tokens ≡ None → Meets places_row d (suc d) tokens reading → Meets list_form (suc d) (suc d) tokens (list_from reading)
row_as_list d tokens (read ps rest) none h = record {
  whole = h.whole ∙ ap (λ ts. ts ++ rest) (sym (places-alike ps h.good));
  good = (not_one_empty ps h.good (λ e. let never : ◌≡◌ {A = Option (List Token)} (Some rest) None = sym (ap (behind CloseSquare) (h.whole ∙ ap (λ ts. ts ++ rest) e)) ∙ none in cc), row_places ps h.good);
  shallow = let e = places_nesting-alike ps in let le = h.shallow in omega arith;
}
row_as_list d tokens (unexpected expected rest) none h = stick places_row list_form [] [] 0 (suc d) (suc d) list_spelled expected tokens tokens rest (row_in_list (suc d)) (omega arith) refl h
row_as_list d tokens (too_deep rest) none h = deepen places_row list_form [] [] 0 (suc d) (suc d) list_spelled tokens tokens rest (row_in_list (suc d)) (omega arith) refl h

-- ---- ranges

range_stuck : (d : ℕ) (from to : ℤ) (tokens rest : List Token) → tokens ≡ number from ∷ dots ∷ number to ∷ rest → Stuck list_form (suc d) wanted.Mark tokens rest
range_stuck d from to tokens rest w = record {
  kept = number from ∷ dots ∷ number to ∷ [];
  whole = w;
  begun = record { more = close_square ∷ []; plain = (tt, tt); tree = range_value from to; good = tt; formed = refl };
  others = λ token may. absurd may;
  low = λ m o le. (omega arith, (omega arith, (omega arith, (omega arith, tt))));
  numbered = λ never. cc;
  unrec = λ h. h;
  not_rec = λ never. cc;
}

range_others : (from : ℤ) (token : Token) → MayStand wanted.Number token → Begins list_form (number from ∷ dots ∷ token ∷ [])
range_others from (number to) may = record { more = close_square ∷ []; plain = (tt, tt); tree = range_value from to; good = tt; formed = refl }
range_others from _ may = absurd may

no_number : (d : ℕ) (from : ℤ) (tokens rest : List Token) → tokens ≡ number from ∷ dots ∷ rest → Stuck list_form (suc d) wanted.Number tokens rest
no_number d from tokens rest w = record {
  kept = number from ∷ dots ∷ [];
  whole = w;
  begun = record { more = number (pos 0) ∷ close_square ∷ []; plain = (refl, (tt, tt)); tree = range_value from (pos 0); good = tt; formed = refl };
  others = range_others from;
  low = λ m o le. (omega arith, (omega arith, (omega arith, tt)));
  numbered = λ never. cc;
  unrec = λ h. h;
  not_rec = λ never. cc;
}

range_close : (d : ℕ) (from to : ℤ) (tokens rest : List Token) (o : Option (List Token)) → behind CloseSquare rest ≡ o → tokens ≡ number from ∷ dots ∷ number to ∷ rest → Meets list_form (suc d) (suc d) tokens (past wanted.Mark rest o (read (range_value from to)))
range_close d from to tokens rest None e w = range_stuck d from to tokens rest w
range_close d from to tokens rest (Some left) e w = record { whole = w ∙ ap (λ ts. number from ∷ dots ∷ number to ∷ ts) (behind-is CloseSquare rest left e); good = tt; shallow = omega arith }

range_to : (d : ℕ) (from : ℤ) (tokens rest : List Token) → tokens ≡ number from ∷ dots ∷ rest → Meets list_form (suc d) (suc d) tokens (range_from from rest)
range_to d from tokens (number to ∷ rest) w = range_close d from to tokens rest (behind CloseSquare rest) refl w
range_to d from tokens [] w = no_number d from tokens [] w
range_to d from tokens (token ∷ rest) w = no_number d from tokens (token ∷ rest) w

-- ---- lists that a number begins

dots_others : (z : ℤ) (token : Token) → MayStand wanted.Dots token → Begins list_form (number z ∷ token ∷ [])
dots_others z dots may = record { more = number (pos 0) ∷ close_square ∷ []; plain = (refl, (tt, tt)); tree = range_value z (pos 0); good = tt; formed = refl }
dots_others z _ may = absurd may

no_comma : (d : ℕ) (z : ℤ) (tokens rest left : List Token) (expected : Expected) → tokens ≡ number z ∷ rest → expected ≡ wanted.Dots → left ≡ rest → Stuck list_form (suc d) expected tokens left
no_comma d z tokens rest left expected w e f =
    let P : Expected → Type 0 = λ other. Stuck list_form (suc d) other tokens left in
    subst P (sym e) (record {
      kept = number z ∷ [];
      whole = w ∙ ap (λ ts. number z ∷ ts) (sym f);
      begun = record { more = close_square ∷ []; plain = (tt, tt); tree = list_value (place (number_value z) no_places); good = (tt, (tt, tt)); formed = refl };
      others = dots_others z;
      low = λ m o le. (omega arith, (omega arith, tt));
      numbered = λ same. ([], z, refl);
      unrec = λ h. h;
      not_rec = λ never. cc;
    })

-- the places behind the number
abbrev behind_first : ℤ → List (Option Value) → Value
behind_first z ps = list_value (place (number_value z) (places_of ps))

after_first : (d : ℕ) (z : ℤ) → Embeds places_row list_form (number z ∷ comma ∷ []) [] 0 (suc d) (behind_first z)
after_first d z = record {
  spelled = λ ps good. ap (λ ts. number z ∷ ts) (more_places-alike ps ∙ more-is place_form comma (close_square ∷ []) ps good ∙ ap (λ ts. comma ∷ ts) (sym (append-nil _)));
  good = λ ps good. (tt, (tt, row_places ps good));
  opens = λ o ts. (let e : o ≡ o + 0 = omega arith in ap (λ m. open_behind m ts) e);
  low = λ m o ts le w. (omega arith, (omega arith, (let e : o + 0 ≡ o = omega arith in let P : ℕ → Type 0 = λ n. Within m n ts in subst P e w)));
  plain = tt;
  unrec = λ h. h;
}

numbered_to : (d : ℕ) (z : ℤ) (tokens rest : List Token) (comes : Reading Bool) → tokens ≡ number z ∷ rest → Turns comma (close_square ∷ []) wanted.Dots rest comes → ((others : List Token) → Meets places_row d (suc d) others (read_places (read_value d) others))
    → Meets list_form (suc d) (suc d) tokens (numbered_list (read_value d) z comes)
numbered_to d z tokens rest (read true others) w e places =
    meets_as list_form (suc d) (suc d) tokens _ _ (map_twice (λ items. first_place (Some z) ++ items) (λ found. list_value (places_of found)) (read_places (read_value d) others))
    (meets_in places_row list_form (number z ∷ comma ∷ []) 0 d (suc d) (suc d) (suc d) (behind_first z) tokens others _ (after_first d z) (omega arith) (w ∙ ap (λ ts. number z ∷ ts) e) (λ ps le. (let e = places_nesting-alike ps in omega arith)) (places others))
numbered_to d z tokens rest (read false others) w e places = record { whole = w ∙ ap (λ ts. number z ∷ ts) e; good = (tt, (tt, tt)); shallow = omega arith }
numbered_to d z tokens rest (unexpected expected left) w e places = no_comma d z tokens rest left expected w e.0 e.1
numbered_to d z tokens rest (too_deep left) w e places = absurd e

number_to : (d : ℕ) (z : ℤ) (tokens rest : List Token) (o : Option (List Token)) → behind Dots rest ≡ o → tokens ≡ number z ∷ rest → ((others : List Token) → Meets places_row d (suc d) others (read_places (read_value d) others))
    → Meets list_form (suc d) (suc d) tokens (number_behind (read_value d) z rest o)
number_to d z tokens rest (Some others) e w places = range_to d z tokens others (w ∙ ap (λ ts. number z ∷ ts) (behind-is Dots rest others e))
number_to d z tokens rest None e w places = numbered_to d z tokens rest (passes_comma CloseSquare wanted.Dots rest) w (square_turns wanted.Dots rest) places

first_number-is : (tokens : List Token) (z : ℤ) (rest : List Token) → first_number tokens ≡ Some (z, rest) → tokens ≡ number z ∷ rest
first_number-is (number y ∷ tokens) z rest e = let same : number y ∷ tokens ≡ number z ∷ rest = ap unread e in same
  where
    unread : Option (ℤ × List Token) → List Token
    unread None = []
    unread (Some p) = number p.0 ∷ p.1
first_number-is _ z rest e = cc

places_meet : (d : ℕ) → ((others : List Token) → Meets value_form d (suc d) others (read_value d others)) → (tokens : List Token) → Meets places_row d (suc d) tokens (read_places (read_value d) tokens)
places_meet d h tokens =
    row_meets place_form comma (close_square ∷ []) (place_with (read_value d)) (passes_comma CloseSquare wanted.Mark) d (tt, tt) (λ ts. place_to d ts (ends_place ts) (read_value d ts) (h ts)) (square_turns wanted.Mark) place_balanced (λ o ts. refl) place_within (λ m o ts le w. (le, w)) place_unrec (λ h. h) tokens

list_to : (d : ℕ) (tokens : List Token) (o : Option (List Token)) (first : Option (ℤ × List Token)) → behind CloseSquare tokens ≡ o → first_number tokens ≡ first → ((others : List Token) → Meets value_form d (suc d) others (read_value d others))
    → Meets list_form (suc d) (suc d) tokens (list_behind (read_value d) tokens o first)
list_to d tokens (Some rest) first e f h = record { whole = behind-is CloseSquare tokens rest e; good = (tt, tt); shallow = omega arith }
list_to d tokens None (Some (z, rest)) e f h = number_to d z tokens rest (behind Dots rest) refl (first_number-is tokens z rest f) (places_meet d h)
list_to d tokens None None e f h = row_as_list d tokens _ e (places_meet d h tokens)

list_zero : (tokens : List Token) → Meets list_form 0 0 tokens (read_list 0 tokens)
list_zero tokens = record {
  consumed = [];
  whole = refl;
  opens = λ o. omega arith;
  begun = record { more = close_square ∷ []; plain = (tt, tt); tree = list_value no_places; good = (tt, tt); formed = refl };
  low = λ m o le. tt;
}

-- ---- records

fields_in : (k : ℕ) → Embeds (row_form field_form comma (close_round ∷ [])) fields_form [] [] 0 k (λ fs. fs)
fields_in k = here (row_form field_form comma (close_round ∷ [])) fields_form [] k (λ fs. fs) (λ fs good. fields-alike fs good ∙ sym (append-nil _)) row_fields tt

row_as_fields : (d : ℕ) (tokens : List Token) (reading : Reading (List (List ℕ × Value))) → Meets (row_form field_form comma (close_round ∷ [])) d (suc d) tokens reading → Meets fields_form (suc d) (suc d) tokens reading
row_as_fields d tokens (read fs rest) h = record {
  whole = h.whole ∙ ap (λ ts. ts ++ rest) (sym (fields-alike fs h.good));
  good = row_fields fs h.good;
  shallow = let e = fields_nesting-alike fs in let le = h.shallow in omega arith;
}
row_as_fields d tokens (unexpected expected rest) h = stick (row_form field_form comma (close_round ∷ [])) fields_form [] [] 0 (suc d) (suc d) (λ fs. fs) expected tokens tokens rest (fields_in (suc d)) (omega arith) refl h
row_as_fields d tokens (too_deep rest) h = deepen (row_form field_form comma (close_round ∷ [])) fields_form [] [] 0 (suc d) (suc d) (λ fs. fs) tokens tokens rest (fields_in (suc d)) (omega arith) refl h

field_within : (f : List ℕ × Value) (m o : ℕ) (ts : List Token) → o + value_nesting f.1 ≤ m → Within m o ts → Within m o (name f.0 ∷ assign ∷ value_tokens f.1 ++ ts)
field_within f m o ts le w = (omega arith, (omega arith, value_within f.1 m o ts le w))

fields_to : (d : ℕ) (tokens : List Token) (o : Option (List Token)) → behind CloseRound tokens ≡ o → ((others : List Token) → Meets value_form d (suc d) others (read_value d others)) → Meets fields_form (suc d) (suc d) tokens (fields_behind (read_value d) tokens o)
fields_to d tokens (Some rest) e h = record { whole = behind-is CloseRound tokens rest e; good = tt; shallow = omega arith }
fields_to d tokens None e h =
    row_as_fields d tokens _
    (row_meets field_form comma (close_round ∷ []) (field_with (read_value d)) (passes_comma CloseRound wanted.Mark) d (tt, tt) (field_meets d (read_value d) h) (round_turns wanted.Mark) (λ f o ts. value_balanced f.1 o ts) (λ o ts. refl) field_within (λ m o ts le w. (le, w)) field_unrec (λ h. h) tokens)

fields_zero : (tokens : List Token) → Meets fields_form 0 0 tokens (read_fields 0 tokens)
fields_zero tokens = record {
  consumed = [];
  whole = refl;
  opens = λ o. omega arith;
  begun = record { more = close_round ∷ []; plain = (tt, tt); tree = []; good = tt; formed = refl };
  low = λ m o le. tt;
}

record_others : (token : Token) → MayStand wanted.Fields token → Begins value_form (token ∷ [])
record_others (name text) may = record { more = []; plain = tt; tree = word_value (factor (named text None) no_factors); good = (tt, tt); formed = refl }
record_others _ may = absurd may

no_bracket : (d : ℕ) (tokens rest : List Token) → tokens ≡ rec_word ∷ rest → Stuck value_form (suc d) wanted.Fields tokens rest
no_bracket d tokens rest w = record {
  kept = [];
  whole = w;
  begun = record { more = open_round ∷ close_round ∷ []; plain = (tt, (tt, tt)); tree = record_value no_fields; good = tt; formed = refl };
  others = record_others;
  low = λ m o le. (omega arith, (omega arith, tt));
  numbered = λ never. cc;
  unrec = λ h. h;
  not_rec = λ never. cc;
}

pub one_deeper : (m o : ℕ) (ts : List Token) → Within m (o + 1) ts → Within m (suc o) ts
one_deeper m o ts w = let e : o + 1 ≡ suc o = omega arith in let P : ℕ → Type 0 = λ n. Within m n ts in subst P e w

record_to : (d : ℕ) (tokens rest : List Token) (o : Option (List Token)) → behind OpenRound rest ≡ o → tokens ≡ rec_word ∷ rest → ((others : List Token) → Meets fields_form d d others (read_fields d others))
    → Meets value_form d (suc d) tokens (past wanted.Fields rest o (λ others. reading_map (λ found. record_value (fields_from found)) (read_fields d others)))
record_to d tokens rest None e w h = no_bracket d tokens rest w
record_to d tokens rest (Some others) e w h =
    meets_in fields_form value_form (rec_word ∷ open_round ∷ []) 1 d d d (suc d) (λ found. record_value (fields_from found)) tokens others (read_fields d others)
    (record {
      spelled = λ fs good. ap (λ ts. rec_word ∷ open_round ∷ ts) (sym (append-nil (field_tokens (fields_from fs) ++ close_round ∷ [])));
      good = λ fs good. good;
      opens = λ o ts. (let e : suc o ≡ o + 1 = omega arith in ap (λ m. open_behind m ts) e);
      low = λ m o ts le w. (omega arith, (omega arith, one_deeper m o ts w));
      plain = tt;
      unrec = λ h. h;
    }) (omega arith) (w ∙ ap (λ ts. rec_word ∷ ts) (behind-is OpenRound rest others e)) (λ fs le. le) (h others)

-- ---- values

spelled_list : (v : Value) → IsListOrRange v → value_tokens v ≡ open_square ∷ (inside v ++ [])
spelled_list (number_value z) good = absurd good
spelled_list (string_value text) good = absurd good
spelled_list (record_value fs) good = absurd good
spelled_list (list_value ps) good = ap (λ ts. open_square ∷ ts) (sym (append-nil (place_tokens ps ++ close_square ∷ [])))
spelled_list (range_value from to) good = refl
spelled_list (word_value fs) good = absurd good

good_list : (v : Value) → IsListOrRange v → IsValue v
good_list (number_value z) good = absurd good
good_list (string_value text) good = absurd good
good_list (record_value fs) good = absurd good
good_list (list_value ps) good = good
good_list (range_value from to) good = tt
good_list (word_value fs) good = absurd good

value_others : (token : Token) → MayStand wanted.Value token → Begins value_form (token ∷ [])
value_others (name text) may = record { more = []; plain = tt; tree = word_value (factor (named text None) no_factors); good = (tt, tt); formed = refl }
value_others (number z) may = record { more = []; plain = tt; tree = number_value z; good = tt; formed = refl }
value_others (string text) may = record { more = []; plain = tt; tree = string_value text; good = tt; formed = refl }
value_others rec_word may = record { more = open_round ∷ close_round ∷ []; plain = (tt, (tt, tt)); tree = record_value no_fields; good = tt; formed = refl }
value_others _ may = absurd may

no_value : (d : ℕ) (tokens : List Token) → Stuck value_form (suc d) wanted.Value tokens tokens
no_value d tokens = record {
  kept = [];
  whole = refl;
  begun = record { more = number (pos 0) ∷ []; plain = (refl, tt); tree = number_value (pos 0); good = tt; formed = refl };
  others = value_others;
  low = λ m o le. (omega arith, tt);
  numbered = λ never. cc;
  unrec = λ h. h;
  not_rec = λ never. cc;
}

scalar_to : (d : ℕ) (tokens : List Token) → Meets value_form d (suc d) tokens (read_scalar tokens)
scalar_to d (number z ∷ rest) = record { whole = refl; good = tt; shallow = omega arith }
scalar_to d (string text ∷ rest) = record { whole = refl; good = tt; shallow = omega arith }
scalar_to d [] = no_value d []
scalar_to d (token ∷ rest) = no_value d (token ∷ rest)

behind_to : (d : ℕ) (tokens : List Token) (o o' : Option (List Token)) → behind Rec tokens ≡ o → behind OpenSquare tokens ≡ o' → ((others : List Token) → Meets list_form d d others (read_list d others)) → ((others : List Token) → Meets fields_form d d others (read_fields d others))
    → Meets value_form d (suc d) tokens (value_behind (read_list d) (read_fields d) tokens o o')
behind_to d tokens (Some rest) o' e f list fields = record_to d tokens rest (behind OpenRound rest) refl (behind-is Rec tokens rest e) fields
behind_to d tokens None (Some rest) e f list fields =
    meets_as value_form d (suc d) tokens _ _ (map_same (read_list d rest))
    (meets_in list_form value_form (open_square ∷ []) 1 d d d (suc d) (λ v. v) tokens rest (read_list d rest)
    (record {
      spelled = spelled_list;
      good = good_list;
      opens = λ o ts. (let e : suc o ≡ o + 1 = omega arith in ap (λ m. open_behind m ts) e);
      low = λ m o ts le w. (omega arith, one_deeper m o ts w);
      plain = tt;
      unrec = λ h. h;
    }) (omega arith) (behind-is OpenSquare tokens rest f) (λ v le. le) (list rest))
behind_to d tokens None None e f list fields = scalar_to d tokens

value_to : (d : ℕ) (tokens : List Token) (word : Bool) → ((others : List Token) → Meets list_form d d others (read_list d others)) → ((others : List Token) → Meets fields_form d d others (read_fields d others))
    → Meets value_form d (suc d) tokens (if word then reading_map word_value (read_word d tokens) else value_behind (read_list d) (read_fields d) tokens (behind Rec tokens) (behind OpenSquare tokens))
value_to d tokens true list fields =
    meets_in word_form value_form [] 0 d d (suc d) (suc d) word_value tokens tokens (read_word d tokens)
    (here word_form value_form [] (suc d) word_value (λ fs good. sym (append-nil (word_tokens fs))) (λ fs good. good) tt) (omega arith) refl (λ fs le. le) (word_meets d tokens)
value_to d tokens false list fields = behind_to d tokens (behind Rec tokens) (behind OpenSquare tokens) refl refl list fields

value_step : (d : ℕ) → ((others : List Token) → Meets list_form d d others (read_list d others)) → ((others : List Token) → Meets fields_form d d others (read_fields d others)) → (tokens : List Token) → Meets value_form d (suc d) tokens (read_value d tokens)
value_step d list fields tokens = meets_as value_form d (suc d) tokens _ _ (read_value_is d tokens) (value_to d tokens (begins_word tokens) list fields)

pub value_meets : (d : ℕ) (tokens : List Token) → Meets value_form d (suc d) tokens (read_value d tokens)
value_meets zero tokens = value_step zero list_zero fields_zero tokens
value_meets (suc d) tokens =
    value_step (suc d) (λ ts. list_to d ts (behind CloseSquare ts) (first_number ts) refl refl (value_meets d)) (λ ts. fields_to d ts (behind CloseRound ts) refl (value_meets d)) tokens

pub fields_meets : (d : ℕ) (tokens : List Token) → Meets fields_form d d tokens (read_fields d tokens)
fields_meets zero tokens = fields_zero tokens
fields_meets (suc d) tokens = fields_to d tokens (behind CloseRound tokens) refl (value_meets d)
