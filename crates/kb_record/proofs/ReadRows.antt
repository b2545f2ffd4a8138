-- Items in a row, one at a time.
use Rattle.std.proofs.Common.{◌≡◌, ℕ, zero, suc, ◌-◌, ◌<◌, List, [], ◌∷◌, ◌++◌, map, length, Bool, true, false, if◌then◌else◌, Option, Some, None, Result, Err, ℤ, refl, sym, ap, ◌∙◌, subst, arith, append_assoc}
use Rattle.std.proofs.lemmas.List.{map-append}
use Rattle.kb_lexing.specs.Token.{Token, number}
use Rattle.kb_lexing.specs.declared.place.Expected.{Expected}
use Rattle.kb_lexing.specs.declared.place.Expected.TheVariants as wanted
use Rattle.kb_record.specs.Tree.{Value as ValueTree}
use Rattle.kb_record.specs.View.{value_view}
use Rattle.kb_record.specs.Listed.{HasPlaces}
use Rattle.kb_record.specs.Reading.{Reading, read, unexpected, too_deep, Parse, and_then, reading_map, read_number, Reads, joined, behind, passes, passes_to, passes_comma, comma_unless, past, after_items, first_place, list_from, read_places, numbered_list, number_behind, number_with}
use Rattle.kb_record.specs.declared.tree.Value.{Value as ValueType}
use Rattle.kb_record.specs.declared.cursor.Mark.{Mark}
use Rattle.kb_record.specs.declared.cursor.Mark.TheVariants.{Comma, CloseSquare, Dots}
use Rattle.kb_record.specs.declared.cursor.Stop.{Stop}
use Rattle.kb_record.proofs.PassedMarks.{behind-shorter}
use Rattle.kb_record.specs.declared.cursor.Stop.TheVariants.{Unexpected, TooDeep, Memory}

-- a reading that fails goes on to fail
pub fails : {A B C D : Type 0} (reading : Reading A) (view : B → A) (next : A → Parse C) (view' : D → C) (stop : Stop) (rest : List Token) → Reads reading view (Err stop) rest → Reads (and_then reading next) view' (Err stop) rest
fails reading view next view' (Unexpected expected) rest e = ap (λ r. and_then r next) e
fails reading view next view' TooDeep rest e = ap (λ r. and_then r next) e
fails reading view next view' Memory rest e = tt

pub none_before : {A : Type 0} (reading : Reading (List A)) → reading ≡ after_items [] reading
none_before (read items rest) = refl
none_before (unexpected expected rest) = refl
none_before (too_deep rest) = refl

pub one_more : {A : Type 0} (before : List A) (x : A) (reading : Reading (List A)) → after_items before (reading_map (λ items. x ∷ items) reading) ≡ after_items (before ++ x ∷ []) reading
one_more before x (read items rest) = ap (λ l. read l rest) (sym (append_assoc before (x ∷ []) items))
one_more before x (unexpected expected rest) = refl
one_more before x (too_deep rest) = refl

module _ {A : Type 0} (item : Parse A) (goes_on : Parse Bool) where
  one_then : (n : ℕ) (tokens rest : List Token) (x : A) → item tokens ≡ read x rest
      → joined item goes_on (suc n) tokens ≡ and_then (goes_on rest) (λ more others. if more then reading_map (λ items. x ∷ items) (joined item goes_on n others) else read (x ∷ []) others)
  unfolding joined
  one_then n tokens rest x e =
      ap (λ r. and_then r (λ first rest'. and_then (goes_on rest') (λ more others. if more then reading_map (λ items. first ∷ items) (joined item goes_on n others) else read (first ∷ []) others))) e

  pub turn : (before : List A) (n : ℕ) (tokens rest others : List Token) (x : A) → 0 < n → item tokens ≡ read x rest → goes_on rest ≡ read true others
      → after_items before (joined item goes_on n tokens) ≡ after_items (before ++ x ∷ []) (joined item goes_on (n - 1) others)
  turn before zero tokens rest others x h e f = let never : ⊥ = omega arith in absurd never
  turn before (suc n) tokens rest others x h e f =
      let less : n ≡ suc n - 1 = omega arith in
      ap (after_items before) (one_then n tokens rest x e ∙ ap (λ r. and_then r (λ more others'. if more then reading_map (λ items. x ∷ items) (joined item goes_on n others') else read (x ∷ []) others')) f)
      ∙ one_more before x (joined item goes_on n others) ∙ ap (λ m. after_items (before ++ x ∷ []) (joined item goes_on m others)) less

  pub last : (before : List A) (n : ℕ) (tokens rest others : List Token) (x : A) → 0 < n → item tokens ≡ read x rest → goes_on rest ≡ read false others
      → after_items before (joined item goes_on n tokens) ≡ read (before ++ x ∷ []) others
  last before zero tokens rest others x h e f = let never : ⊥ = omega arith in absurd never
  last before (suc n) tokens rest others x h e f =
      ap (after_items before) (one_then n tokens rest x e ∙ ap (λ r. and_then r (λ more others'. if more then reading_map (λ items. x ∷ items) (joined item goes_on n others') else read (x ∷ []) others')) f)

  pub item_fails : {B D : Type 0} (before : List A) (n : ℕ) (tokens rest : List Token) (view : B → A) (view' : D → List A) (stop : Stop) → 0 < n → Reads (item tokens) view (Err stop) rest
      → Reads (after_items before (joined item goes_on n tokens)) view' (Err stop) rest
  unfolding joined
  item_fails before zero tokens rest view view' stop h e = let never : ⊥ = omega arith in absurd never
  item_fails before (suc n) tokens rest view view' stop h e = fails (joined item goes_on (suc n) tokens) view' _ view' stop rest (fails (item tokens) view _ view' stop rest e)

  pub comma_fails : {B D : Type 0} (before : List A) (n : ℕ) (tokens rest others : List Token) (x : A) (view : B → Bool) (view' : D → List A) (stop : Stop) → 0 < n → item tokens ≡ read x rest → Reads (goes_on rest) view (Err stop) others
      → Reads (after_items before (joined item goes_on n tokens)) view' (Err stop) others
  comma_fails before zero tokens rest others x view view' stop h e f = let never : ⊥ = omega arith in absurd never
  comma_fails before (suc n) tokens rest others x view view' stop h e f =
      let P : Reading (List A) → Type 0 = λ r. Reads (after_items before r) view' (Err stop) others in
      subst P (sym (one_then n tokens rest x e)) (fails (and_then (goes_on rest) (λ more others'. if more then reading_map (λ items. x ∷ items) (joined item goes_on n others') else read (x ∷ []) others')) view' _ view' stop others (fails (goes_on rest) view _ view' stop others f))

pub as_answered : {A D : Type 0} (reading whole : Reading A) (view : D → A) (result : Result D Stop) (stop : Stop) (rest : List Token) → whole ≡ reading → result ≡ Err stop → Reads reading view (Err stop) rest → Reads whole view result rest
as_answered reading whole view result stop rest e f h =
    let P : Reading _ → Type 0 = λ r. Reads r view result rest in
    let Q : Result _ Stop → Type 0 = λ r. Reads reading view r rest in
    subst P (sym e) (subst Q (sym f) h)

pub not_passed : (mark : Mark) (tokens rest : List Token) → behind mark tokens ≡ None → rest ≡ tokens → passes mark tokens ≡ read false rest
not_passed mark tokens rest e f = ap (passes_to tokens) e ∙ ap (read false) (sym f)

pub passed : (mark : Mark) (tokens rest : List Token) → behind mark tokens ≡ Some rest → passes mark tokens ≡ read true rest
passed mark tokens rest e = ap (passes_to tokens) e

pub map_one_more : {A B : Type 0} (f : A → B) (xs ys : List A) (x : A) → ys ≡ xs ++ x ∷ [] → map f xs ++ f x ∷ [] ≡ map f ys
map_one_more f xs ys x e = sym (ap (map f) e ∙ map-append f xs (x ∷ []))

comma_to : (expected : Expected) (tokens rest : List Token) (more : Bool) (o o' : Option (List Token)) → ((r : List Token) → o ≡ Some r → length r < length tokens) → ((r : List Token) → o' ≡ Some r → length r < length tokens)
    → behind Comma tokens ≡ o' → comma_unless expected tokens o ≡ read more rest → length rest < length tokens
comma_to expected tokens rest more (Some r) o' h k f e = let same : r ≡ rest = cc in subst (λ x. length x < length tokens) same (h r refl)
comma_to expected tokens rest more None (Some r) h k f e = let e' : ◌≡◌ {A = Reading Bool} (read true r) (read more rest) = ap (λ o. past expected tokens o (λ s. read true s)) (sym f) ∙ e in let same : r ≡ rest = cc in subst (λ x. length x < length tokens) same (k r refl)
comma_to expected tokens rest more None None h k f e = let e' : ◌≡◌ {A = Reading Bool} (unexpected expected tokens) (read more rest) = ap (λ o. past expected tokens o (λ s. read true s)) (sym f) ∙ e in cc

pub comma-shorter : (close : Mark) (expected : Expected) (tokens rest : List Token) (more : Bool) → passes_comma close expected tokens ≡ read more rest → length rest < length tokens
comma-shorter close expected tokens rest more e =
    comma_to expected tokens rest more (behind close tokens) (behind Comma tokens) (λ r. behind-shorter close tokens r) (λ r. behind-shorter Comma tokens r) refl e

-- behind a number that is read fewer tokens are left
pub number_shorter : (tokens rest : List Token) (z : ℤ) → read_number tokens ≡ read z rest → length rest < length tokens
number_shorter (number y ∷ tokens) rest z e = let same : tokens ≡ rest = cc in subst (λ r. length r < length (number y ∷ tokens)) same (omega arith)
number_shorter _ rest z e = cc

-- behind the number that comes first and a comma the places are read
pub numbered_reads : (value : Parse ValueTree) (z : ℤ) (tokens others : List Token) (result : Result ValueType Stop) (rest : List Token) → behind Dots tokens ≡ None → passes_comma CloseSquare wanted.Dots tokens ≡ read true others
    → Reads (list_from (after_items (first_place (Some z)) (read_places value others))) value_view result rest → Reads (number_with value z tokens) value_view result rest
numbered_reads value z tokens others result rest none comes h =
    let whole : number_with value z tokens ≡ list_from (after_items (first_place (Some z)) (read_places value others)) =
    ap (number_behind value z tokens) none ∙ ap (numbered_list value z) comes in
    let P : Reading ValueTree → Type 0 = λ r. Reads r value_view result rest in
    subst P (sym whole) h

-- behind it the list may end
pub number_alone : (value : Parse ValueTree) (z : ℤ) (tokens others : List Token) (list : ValueTree) → behind Dots tokens ≡ None → passes_comma CloseSquare wanted.Dots tokens ≡ read false others → HasPlaces list (first_place (Some z))
    → number_with value z tokens ≡ read list others
number_alone value z tokens others list none ends has = ap (number_behind value z tokens) none ∙ ap (numbered_list value z) ends ∙ ap (λ v. read v others) (sym has)
