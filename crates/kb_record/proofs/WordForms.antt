-- What reading a word tells of the tokens.
use Rattle.std.proofs.Common.{◌≡◌, ℕ, zero, suc, ◌+◌, ◌≤◌, max, ℤ, pos, List, [], ◌∷◌, ◌++◌, Option, Some, None, refl, sym, ap, ◌∙◌, subst, arith, append_assoc, append-nil}
use Rattle.kb_lexing.specs.Token.{Token, name, number, comma, star, caret, open_round, close_round}
use Rattle.kb_lexing.specs.declared.place.Expected.{Expected}
use Rattle.kb_lexing.specs.declared.place.Expected.TheVariants as wanted
use Rattle.kb_record.specs.Tree.{Factor, named, grouped, Factors, no_factors, factor}
use Rattle.kb_record.specs.Grammar.{power_tokens, word_tokens, factor_tokens, more_factors, IsWord, IsFactorTree, AreFactorTrees}
use Rattle.kb_record.specs.Nesting.{open_behind, word_nesting, factor_nesting}
use Rattle.kb_record.specs.View.{factors_of}
use Rattle.kb_record.specs.Reading.{Reading, read, unexpected, too_deep, Parse, and_then, reading_map, behind, past, passes, passes_to, power_behind, read_number, read_power, factor_behind, read_factor, read_group, read_word}
use Rattle.kb_record.specs.declared.cursor.Mark.TheVariants.{Star, Caret, OpenRound, CloseRound}
use Rattle.kb_record.proofs.PassedMarks.{behind-is}
use Rattle.kb_record.proofs.Depths.{read_word_is}
use Rattle.kb_record.proofs.Balanced.{factor_balanced}
use Rattle.kb_record.proofs.OpenBrackets.{Within, word_within, factor_within}
use Rattle.kb_record.proofs.LastRec.{ends_behind, factor_unrec, word_unrec}
use Rattle.kb_record.proofs.ReadingForms.{Form, Stands, Begins, MayStand, Stuck, Meets, Embeds, here, stick, deepen, meets_as, meets_in}
use Rattle.kb_record.proofs.RowForms.{Turns, row_form, row_tokens, more_tokens, GoodRow, AllGood, widest, row_meets}

abbrev pub word_form : Form Factors
word_form = record { spelled = word_tokens; Good = IsWord; nesting = word_nesting }

abbrev pub factor_form : Form Factor
factor_form = record { spelled = factor_tokens; Good = IsFactorTree; nesting = factor_nesting }

-- a word and the bracket that closes it
abbrev pub group_form : Form Factors
group_form = record { spelled = λ fs. word_tokens fs ++ close_round ∷ []; Good = IsWord; nesting = λ fs. suc (word_nesting fs) }

-- ---- powers

abbrev PowerRead : List Token → Reading (Option ℤ) → Type 0
PowerRead tokens (read power rest) = tokens ≡ power_tokens power ++ rest
PowerRead tokens (unexpected expected rest) = (expected ≡ wanted.Number) × (tokens ≡ caret ∷ rest)
PowerRead tokens (too_deep rest) = ⊥

power_number : (tokens rest : List Token) → tokens ≡ caret ∷ rest → PowerRead tokens (reading_map Some (read_number rest))
power_number tokens (number z ∷ rest) e = e
power_number tokens [] e = (refl, e)
power_number tokens (_ ∷ rest) e = (refl, e)

power_to : (tokens : List Token) (o : Option (List Token)) → behind Caret tokens ≡ o → PowerRead tokens (power_behind tokens o)
power_to tokens None e = refl
power_to tokens (Some rest) e = power_number tokens rest (behind-is Caret tokens rest e)

power_read : (tokens : List Token) → PowerRead tokens (read_power tokens)
power_read tokens = power_to tokens (behind Caret tokens) refl

-- ---- factors

-- what a power may stand behind
record Powered (d : ℕ) (before : List Token) (make : Option ℤ → Factor) : Type 0 where
  pub spelled : (power : Option ℤ) → factor_tokens (make power) ≡ before ++ power_tokens power
  pub good : (power : Option ℤ) → IsFactorTree (make power)
  pub nest : (power : Option ℤ) → factor_nesting (make power) ≤ d
  pub low : (m o : ℕ) (tokens : List Token) → o + d ≤ m → Within m o tokens → Within m o (before ++ tokens)

power_others : (d : ℕ) (before : List Token) (make : Option ℤ → Factor) → Powered d before make → (token : Token) → MayStand wanted.Number token → Begins factor_form ((before ++ caret ∷ []) ++ token ∷ [])
power_others d before make p (number z) may = record {
  more = [];
  plain = tt;
  tree = make (Some z);
  good = p.good (Some z);
  formed = append-nil _ ∙ append_assoc before (caret ∷ []) (number z ∷ []) ∙ sym (p.spelled (Some z));
}
power_others d before make p _ may = absurd may

number_stuck : (d : ℕ) (before tokens rest left : List Token) (make : Option ℤ → Factor) (expected : Expected) → Powered d before make → tokens ≡ before ++ rest → expected ≡ wanted.Number → rest ≡ caret ∷ left → Stuck factor_form (suc d) expected tokens left
number_stuck d before tokens rest left make expected p w e f =
    let P : Expected → Type 0 = λ other. Stuck factor_form (suc d) other tokens left in
    subst P (sym e) (record {
      kept = before ++ caret ∷ [];
      whole = w ∙ ap (λ ts. before ++ ts) f ∙ sym (append_assoc before (caret ∷ []) left);
      begun = record {
        more = number (pos 0) ∷ [];
        plain = (refl, tt);
        tree = make (Some (pos 0));
        good = p.good (Some (pos 0));
        formed = ap (λ ts. ts ++ number (pos 0) ∷ []) (append-nil (before ++ caret ∷ [])) ∙ append_assoc before (caret ∷ []) (number (pos 0) ∷ []) ∙ sym (p.spelled (Some (pos 0)));
      };
      others = power_others d before make p;
      low = λ m o le. (let Q : List Token → Type 0 = λ ts. Within m o ts in subst Q (sym (append_assoc before (caret ∷ []) (comma ∷ []))) (p.low m o (caret ∷ comma ∷ []) (omega arith) (omega arith, (omega arith, tt))));
      numbered = λ never. cc;
      unrec = ends_behind before caret [];
      not_rec = λ never. cc;
    })

with_power : (d : ℕ) (before tokens rest : List Token) (make : Option ℤ → Factor) (reading : Reading (Option ℤ)) → Powered d before make → tokens ≡ before ++ rest → PowerRead rest reading → Meets factor_form d (suc d) tokens (reading_map make reading)
with_power d before tokens rest make (read power left) p w h = record {
  whole = w ∙ ap (λ ts. before ++ ts) h ∙ sym (append_assoc before (power_tokens power) left) ∙ ap (λ ts. ts ++ left) (sym (p.spelled power));
  good = p.good power;
  shallow = p.nest power;
}
with_power d before tokens rest make (unexpected expected left) p w h = number_stuck d before tokens rest left make expected p w h.0 h.1
with_power d before tokens rest make (too_deep left) p w h = absurd h

name_others : (token : Token) → MayStand wanted.Name token → Begins factor_form (token ∷ [])
name_others (name text) may = record { more = []; plain = tt; tree = named text None; good = tt; formed = refl }
name_others _ may = absurd may

-- neither a name nor a bracket comes
no_name : (d : ℕ) (tokens : List Token) → Stuck factor_form (suc d) wanted.Name tokens tokens
no_name d tokens = record {
  kept = [];
  whole = refl;
  begun = record { more = name (97 ∷ []) ∷ []; plain = (refl, tt); tree = named (97 ∷ []) None; good = tt; formed = refl };
  others = name_others;
  low = λ m o le. (omega arith, tt);
  numbered = λ never. cc;
  unrec = λ h. h;
  not_rec = λ never. cc;
}

name_to : (group : Parse Factors) (d : ℕ) (tokens : List Token) → Meets factor_form d (suc d) tokens (factor_behind group tokens None)
name_to group d (name text ∷ rest) =
    with_power d (name text ∷ []) (name text ∷ rest) rest (named text) (read_power rest)
    (record { spelled = λ p. refl; good = λ p. tt; nest = λ p. omega arith; low = λ m o ts le w. (omega arith, w) }) refl (power_read rest)
name_to group d [] = no_name d []
name_to group d (token ∷ rest) = no_name d (token ∷ rest)

in_brackets : (d : ℕ) → Embeds group_form factor_form (open_round ∷ []) [] 1 (suc d) (λ fs. grouped fs None)
in_brackets d = record {
  spelled = λ fs good. ap (λ ts. open_round ∷ ts) (sym (append-nil (word_tokens fs ++ close_round ∷ [])));
  good = λ fs good. good;
  opens = λ o ts. (let e : suc o ≡ o + 1 = omega arith in ap (λ m. open_behind m ts) e);
  low = λ m o ts le w. (omega arith, (let e : o + 1 ≡ suc o = omega arith in let P : ℕ → Type 0 = λ n. Within m n ts in subst P e w));
  plain = tt;
  unrec = λ h. h;
}

group_to : (d : ℕ) (tokens inside : List Token) (reading : Reading Factors) → tokens ≡ open_round ∷ inside → Meets group_form d d inside reading
    → Meets factor_form d (suc d) tokens (and_then reading (λ factors rest. reading_map (grouped factors) (read_power rest)))
group_to d tokens inside (read fs rest) e h =
    with_power d (open_round ∷ word_tokens fs ++ close_round ∷ []) tokens rest (grouped fs) (read_power rest)
    (record {
      spelled = λ p. ap (λ ts. open_round ∷ ts) (sym (append_assoc (word_tokens fs) (close_round ∷ []) (power_tokens p)));
      good = λ p. h.good;
      nest = λ p. h.shallow;
      low = λ m o ts le w. factor_within (grouped fs None) m o ts (let shallow = h.shallow in omega arith) w;
    }) (e ∙ ap (λ ts. open_round ∷ ts) h.whole) (power_read rest)
group_to d tokens inside (unexpected expected rest) e h = stick group_form factor_form (open_round ∷ []) [] 1 d (suc d) (λ fs. grouped fs None) expected tokens inside rest (in_brackets d) (omega arith) e h
group_to d tokens inside (too_deep rest) e h = deepen group_form factor_form (open_round ∷ []) [] 1 d (suc d) (λ fs. grouped fs None) tokens inside rest (in_brackets d) (omega arith) e h

factor_to : (d : ℕ) (tokens : List Token) (o : Option (List Token)) → behind OpenRound tokens ≡ o → ((inside : List Token) → Meets group_form d d inside (read_group d inside)) → Meets factor_form d (suc d) tokens (factor_behind (read_group d) tokens o)
factor_to d tokens None e group = name_to (read_group d) d tokens
factor_to d tokens (Some inside) e group = group_to d tokens inside (read_group d inside) (behind-is OpenRound tokens inside e) (group inside)

pub factor_meets : (d : ℕ) → ((inside : List Token) → Meets group_form d d inside (read_group d inside)) → (tokens : List Token) → Meets factor_form d (suc d) tokens (read_factor d tokens)
factor_meets d group tokens = factor_to d tokens (behind OpenRound tokens) refl group

-- ---- words

star_to : (tokens : List Token) (o : Option (List Token)) → behind Star tokens ≡ o → Turns star [] wanted.Mark tokens (passes_to tokens o)
star_to tokens None e = refl
star_to tokens (Some rest) e = behind-is Star tokens rest e

star_turns : (tokens : List Token) → Turns star [] wanted.Mark tokens (passes Star tokens)
star_turns tokens = star_to tokens (behind Star tokens) refl

more_alike : (fs : List Factor) → more_factors (factors_of fs) ≡ more_tokens factor_form star [] fs
more_alike [] = refl
more_alike (f ∷ fs) = ap (λ ts. star ∷ (factor_tokens f ++ ts)) (more_alike fs)

word_alike : (fs : List Factor) → word_tokens (factors_of fs) ≡ row_tokens factor_form star [] fs
word_alike [] = refl
word_alike (f ∷ fs) = ap (λ ts. factor_tokens f ++ ts) (more_alike fs)

all_good : (fs : List Factor) → AllGood factor_form star [] fs → AreFactorTrees (factors_of fs)
all_good [] good = tt
all_good (f ∷ fs) good = (good.0, all_good fs good.1)

row_good : (fs : List Factor) → GoodRow factor_form star [] fs → IsWord (factors_of fs)
row_good [] good = absurd good
row_good (f ∷ fs) good = (good.0, all_good fs good.1)

nesting_alike : (fs : List Factor) → word_nesting (factors_of fs) ≡ widest factor_form star [] fs
nesting_alike [] = refl
nesting_alike (f ∷ fs) = ap (max (factor_nesting f)) (nesting_alike fs)

word_step : (d : ℕ) → ((inside : List Token) → Meets group_form d d inside (read_group d inside)) → (tokens : List Token) → Meets word_form d (suc d) tokens (read_word d tokens)
word_step d group tokens =
    meets_as word_form d (suc d) tokens _ _ (read_word_is d tokens)
    (meets_in (row_form factor_form star []) word_form [] 0 d d (suc d) (suc d) factors_of tokens tokens _
    (here (row_form factor_form star []) word_form [] (suc d) factors_of (λ fs good. word_alike fs ∙ sym (append-nil (row_tokens factor_form star [] fs))) row_good tt) (omega arith) refl (λ fs le. (let e = nesting_alike fs in omega arith))
    (row_meets factor_form star [] (read_factor d) (passes Star) d tt (factor_meets d group) star_turns factor_balanced (λ o ts. refl) factor_within (λ m o ts le w. (le, w)) factor_unrec (λ h. h) tokens))

-- the bracket that closes doesn't come
not_closed : (d : ℕ) (fs : Factors) (tokens rest : List Token) → Stands word_form d tokens rest fs → Stuck group_form (suc d) wanted.Mark tokens rest
not_closed d fs tokens rest h = record {
  kept = word_tokens fs;
  whole = h.whole;
  begun = record { more = close_round ∷ []; plain = (tt, tt); tree = fs; good = h.good; formed = ap (λ ts. ts ++ close_round ∷ []) (append-nil (word_tokens fs)) };
  others = λ token may. absurd may;
  low = λ m o le. word_within fs m o (comma ∷ []) (let shallow = h.shallow in omega arith) (omega arith, tt);
  numbered = λ never. cc;
  unrec = word_unrec fs;
  not_rec = λ never. cc;
}

close_to : (d : ℕ) (fs : Factors) (tokens rest : List Token) (o : Option (List Token)) → behind CloseRound rest ≡ o → Stands word_form d tokens rest fs → Meets group_form (suc d) (suc d) tokens (past wanted.Mark rest o (read fs))
close_to d fs tokens rest None e h = not_closed d fs tokens rest h
close_to d fs tokens rest (Some left) e h = record {
  whole = h.whole ∙ ap (λ ts. word_tokens fs ++ ts) (behind-is CloseRound rest left e) ∙ sym (append_assoc (word_tokens fs) (close_round ∷ []) left);
  good = h.good;
  shallow = let le = h.shallow in omega arith;
}

with_close : (d : ℕ) → Embeds word_form group_form [] (close_round ∷ []) 0 (suc d) (λ fs. fs)
with_close d = here word_form group_form (close_round ∷ []) (suc d) (λ fs. fs) (λ fs good. refl) (λ fs good. good) (tt, tt)

group_from : (d : ℕ) (tokens : List Token) (reading : Reading Factors) → Meets word_form d (suc d) tokens reading → Meets group_form (suc d) (suc d) tokens (and_then reading (λ factors rest. past wanted.Mark rest (behind CloseRound rest) (read factors)))
group_from d tokens (read fs rest) h = close_to d fs tokens rest (behind CloseRound rest) refl h
group_from d tokens (unexpected expected rest) h = stick word_form group_form [] (close_round ∷ []) 0 (suc d) (suc d) (λ fs. fs) expected tokens tokens rest (with_close d) (omega arith) refl h
group_from d tokens (too_deep rest) h = deepen word_form group_form [] (close_round ∷ []) 0 (suc d) (suc d) (λ fs. fs) tokens tokens rest (with_close d) (omega arith) refl h

-- a front that ends with an open bracket is completed by `a` and the closing bracket
group_zero : (tokens : List Token) → Meets group_form 0 0 tokens (read_group 0 tokens)
group_zero tokens = record {
  consumed = [];
  whole = refl;
  opens = λ o. omega arith;
  begun = record { more = name (97 ∷ []) ∷ close_round ∷ []; plain = (refl, (tt, tt)); tree = factor (named (97 ∷ []) None) no_factors; good = (tt, tt); formed = refl };
  low = λ m o le. tt;
}

group_step : (d : ℕ) (word : (tokens : List Token) → Meets word_form d (suc d) tokens (read_word d tokens)) (inside : List Token) → Meets group_form (suc d) (suc d) inside (read_group (suc d) inside)
group_step d word inside = group_from d inside (read_word d inside) (word inside)

pub word_meets : (d : ℕ) (tokens : List Token) → Meets word_form d (suc d) tokens (read_word d tokens)
word_meets zero tokens = word_step zero group_zero tokens
word_meets (suc d) tokens = word_step (suc d) (group_step d (word_meets d)) tokens

pub group_meets : (d : ℕ) (tokens : List Token) → Meets group_form d d tokens (read_group d tokens)
group_meets zero tokens = group_zero tokens
group_meets (suc d) tokens = group_step d (word_meets d) tokens
