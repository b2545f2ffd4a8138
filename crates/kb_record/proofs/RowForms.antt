-- Rows of items: what is read is a row; where it can't go on, or a bracket is too deep, what was passed begins some
-- row.
use Rattle.std.proofs.Common.{◌≡◌, ℕ, zero, suc, ◌+◌, ◌<◌, ◌≤◌, max, List, [], ◌∷◌, ◌++◌, length, Bool, true, false, if◌then◌else◌, refl, sym, ap, ◌∙◌, subst, arith, append_assoc, append-nil}
use Rattle.std.proofs.lemmas.List.{length-append}
use Rattle.kb_lexing.specs.Token.{Token, comma}
use Rattle.kb_lexing.specs.declared.place.Expected.{Expected}
use Rattle.kb_lexing.specs.declared.place.Expected.TheVariants as wanted
use Rattle.kb_record.specs.Nesting.{open_behind}
use Rattle.kb_record.specs.Reading.{Reading, read, unexpected, too_deep, Parse, and_then, reading_map, joined, row}
use Rattle.kb_record.proofs.OpenBrackets.{Within}
use Rattle.kb_record.proofs.LastRec.{EndsInRec, ends_behind}
use Rattle.kb_record.proofs.PlainTokens.{ArePlain}
use Rattle.kb_record.proofs.ReadingForms.{Form, Stands, Stuck, Meets, Embeds, here, stick, deepen}

-- what is passed between the items and behind the last one
abbrev pub Turns : Token → List Token → Expected → List Token → Reading Bool → Type 0
Turns between closing expected tokens (read true rest) = tokens ≡ between ∷ rest
Turns between closing expected tokens (read false rest) = tokens ≡ closing ++ rest
Turns between closing expected tokens (unexpected other rest) = (other ≡ expected) × (rest ≡ tokens)
Turns between closing expected tokens (too_deep rest) = ⊥

module _ {A : Type 0} (F : Form A) (between : Token) (closing : List Token) where
  abbrev pub more_tokens : List A → List Token
  more_tokens [] = closing
  more_tokens (x ∷ xs) = between ∷ (F.spelled x ++ more_tokens xs)

  abbrev pub row_tokens : List A → List Token
  row_tokens [] = []
  row_tokens (x ∷ xs) = F.spelled x ++ more_tokens xs

  abbrev pub AllGood : List A → Type 0
  AllGood [] = Unit {0}
  AllGood (x ∷ xs) = F.Good x × AllGood xs

  abbrev pub GoodRow : List A → Type 0
  GoodRow [] = ⊥
  GoodRow (x ∷ xs) = F.Good x × AllGood xs

  abbrev pub widest : List A → ℕ
  widest [] = 0
  widest (x ∷ xs) = max (F.nesting x) (widest xs)

  abbrev pub row_form : Form (List A)
  row_form = record { spelled = row_tokens; Good = GoodRow; nesting = widest }

  pub more-is : (xs : List A) → GoodRow xs → more_tokens xs ≡ between ∷ row_tokens xs
  more-is [] good = absurd good
  more-is (x ∷ xs) good = refl

  pub all_good : (xs : List A) → GoodRow xs → AllGood xs
  all_good [] good = absurd good
  all_good (x ∷ xs) good = good

  module _ (item : Parse A) (goes_on : Parse Bool) (d : ℕ) (plain : ArePlain closing)
      (item_meets : (tokens : List Token) → Meets F d (suc d) tokens (item tokens)) (turns : (tokens : List Token) → Turns between closing wanted.Mark tokens (goes_on tokens))
      (balanced : (tree : A) (o : ℕ) (tokens : List Token) → open_behind o (F.spelled tree ++ tokens) ≡ open_behind o tokens) (flat : (o : ℕ) (tokens : List Token) → open_behind o (between ∷ tokens) ≡ open_behind o tokens)
      (item_within : (tree : A) (m o : ℕ) (tokens : List Token) → o + F.nesting tree ≤ m → Within m o tokens → Within m o (F.spelled tree ++ tokens)) (between_within : (m o : ℕ) (tokens : List Token) → o ≤ m → Within m o tokens → Within m o (between ∷ tokens))
      (item_unrec : (tree : A) → EndsInRec (F.spelled tree) → ⊥) (between_unrec : EndsInRec (between ∷ []) → ⊥) where
    -- the items behind one item and what is between
    others_in : (x : A) → F.Good x → F.nesting x ≤ d → Embeds row_form row_form (F.spelled x ++ between ∷ []) [] 0 (suc d) (λ items. x ∷ items)
    others_in x good shallow = record {
      spelled = λ xs fine. ap (λ ts. F.spelled x ++ ts) (more-is xs fine ∙ ap (λ ts. between ∷ ts) (sym (append-nil (row_tokens xs)))) ∙ sym (append_assoc (F.spelled x) (between ∷ []) (row_tokens xs ++ []));
      good = λ xs fine. (good, all_good xs fine);
      opens = λ o ts. ap (open_behind o) (append_assoc (F.spelled x) (between ∷ []) ts) ∙ balanced x o (between ∷ ts) ∙ flat o ts ∙ (let e : o ≡ o + 0 = omega arith in ap (λ m. open_behind m ts) e);
      low = λ m o ts le w. (
          let P : List Token → Type 0 = λ us. Within m o us in
          let e : o + 0 ≡ o = omega arith in
          let Q : ℕ → Type 0 = λ n. Within m n ts in
          subst P (sym (append_assoc (F.spelled x) (between ∷ []) ts)) (item_within x m o (between ∷ ts) (omega arith) (between_within m o ts (omega arith) (subst Q e w)))
          );
      plain = tt;
      unrec = λ h. between_unrec (ends_behind (F.spelled x) between [] h);
    }

    more_to : (x : A) (tokens rest others : List Token) (reading : Reading (List A)) → Stands F d tokens rest x → rest ≡ between ∷ others → Meets row_form d (suc d) others reading → Meets row_form d (suc d) tokens (reading_map (λ items. x ∷ items) reading)
    more_to x tokens rest others (read xs left) first e h = record {
      whole =
          first.whole ∙ ap (λ ts. F.spelled x ++ ts) (e ∙ ap (λ ts. between ∷ ts) h.whole ∙ ap (λ ts. ts ++ left) (sym (more-is xs h.good))) ∙ sym (append_assoc (F.spelled x) (more_tokens xs) left);
      good = (first.good, all_good xs h.good);
      shallow = let one = first.shallow in let others = h.shallow in omega arith;
    }
    more_to x tokens rest others (unexpected expected left) first e h =
        stick row_form row_form (F.spelled x ++ between ∷ []) [] 0 (suc d) (suc d) (λ items. x ∷ items) expected tokens others left (others_in x first.good first.shallow) (omega arith)
        (first.whole ∙ ap (λ ts. F.spelled x ++ ts) e ∙ sym (append_assoc (F.spelled x) (between ∷ []) others)) h
    more_to x tokens rest others (too_deep left) first e h =
        deepen row_form row_form (F.spelled x ++ between ∷ []) [] 0 (suc d) (suc d) (λ items. x ∷ items) tokens others left (others_in x first.good first.shallow) (omega arith)
        (first.whole ∙ ap (λ ts. F.spelled x ++ ts) e ∙ sym (append_assoc (F.spelled x) (between ∷ []) others)) h

    -- behind an item neither what is between comes nor the closing
    item_stuck : (x : A) (tokens rest left : List Token) (expected : Expected) → Stands F d tokens rest x → expected ≡ wanted.Mark → left ≡ rest → Stuck row_form (suc d) expected tokens left
    item_stuck x tokens rest left expected first e f =
        let P : Expected → Type 0 = λ other. Stuck row_form (suc d) other tokens left in
        subst P (sym e) (record {
          kept = F.spelled x;
          whole = first.whole ∙ ap (λ ts. F.spelled x ++ ts) (sym f);
          begun = record { more = closing; plain = plain; tree = x ∷ []; good = (first.good, tt); formed = ap (λ ts. ts ++ closing) (append-nil (F.spelled x)) };
          others = λ token may. absurd may;
          low = λ m o le. item_within x m o (comma ∷ []) (let shallow = first.shallow in omega arith) (omega arith, tt);
          numbered = λ never. cc;
          unrec = item_unrec x;
          not_rec = λ never. cc;
        })

    turn_to : (n : ℕ) (x : A) (tokens rest : List Token) (turn : Reading Bool) → Stands F d tokens rest x → Turns between closing wanted.Mark rest turn → ((others : List Token) → rest ≡ between ∷ others → Meets row_form d (suc d) others (joined item goes_on n others))
        → Meets row_form d (suc d) tokens (and_then turn (λ more others. if more then reading_map (λ items. x ∷ items) (joined item goes_on n others) else read (x ∷ []) others))
    turn_to n x tokens rest (read true others) first e again = more_to x tokens rest others (joined item goes_on n others) first e (again others e)
    turn_to n x tokens rest (read false others) first e again = record {
      whole = first.whole ∙ ap (λ ts. F.spelled x ++ ts) e ∙ sym (append_assoc (F.spelled x) closing others);
      good = (first.good, tt);
      shallow = let one = first.shallow in omega arith;
    }
    turn_to n x tokens rest (unexpected expected left) first e again = item_stuck x tokens rest left expected first e.0 e.1
    turn_to n x tokens rest (too_deep left) first e again = absurd e

    one_in : Embeds F row_form [] closing 0 (suc d) (λ x. x ∷ [])
    one_in = here F row_form closing (suc d) (λ x. x ∷ []) (λ x good. refl) (λ x good. (good, tt)) plain

    item_to : (n : ℕ) (tokens : List Token) (reading : Reading A) → Meets F d (suc d) tokens reading → ((x : A) (rest others : List Token) → Stands F d tokens rest x → rest ≡ between ∷ others → Meets row_form d (suc d) others (joined item goes_on n others))
        → Meets row_form d (suc d) tokens (and_then reading (λ first rest. and_then (goes_on rest) (λ more others. if more then reading_map (λ items. first ∷ items) (joined item goes_on n others) else read (first ∷ []) others)))
    item_to n tokens (read x rest) h again = turn_to n x tokens rest (goes_on rest) h (turns rest) (λ others e. again x rest others h e)
    item_to n tokens (unexpected expected left) h again = stick F row_form [] closing 0 (suc d) (suc d) (λ x. x ∷ []) expected tokens tokens left one_in (omega arith) refl h
    item_to n tokens (too_deep left) h again = deepen F row_form [] closing 0 (suc d) (suc d) (λ x. x ∷ []) tokens tokens left one_in (omega arith) refl h

    fewer : (x : A) (tokens rest others : List Token) → Stands F d tokens rest x → rest ≡ between ∷ others → length others < length tokens
    fewer x tokens rest others first e = omega (arith, ap length first.whole, length-append (F.spelled x) rest, ap length e)

    joined_meets : (n : ℕ) (tokens : List Token) → length tokens < n → Meets row_form d (suc d) tokens (joined item goes_on n tokens)
    unfolding joined
    joined_meets zero tokens few = let never : ⊥ = omega arith in absurd never
    joined_meets (suc n) tokens few = item_to n tokens (item tokens) (item_meets tokens) (λ x rest others first e. joined_meets n others (let less = fewer x tokens rest others first e in omega arith))

    pub row_meets : (tokens : List Token) → Meets row_form d (suc d) tokens (row item goes_on tokens)
    row_meets tokens = joined_meets (suc (length tokens)) tokens (omega arith)
