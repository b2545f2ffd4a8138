-- Words, read elsewhere.
use Rattle.std.proofs.Common.{◌≡◌, inl, inr, ℕ, zero, suc, ◌<◌, ◌≤◌, ℤ, List, ◌∷◌, length, Bool, true, false, Option, Some, None, refl, ap, subst, arith, length-append}
use Rattle.kb_lexing.specs.Token.{Token, name, open_round}
use Rattle.kb_lexing.specs.declared.place.Expected.TheVariants as wanted
use Rattle.kb_record.specs.Tree.{Factor, named, grouped, Factors}
use Rattle.kb_record.specs.View.{factors_of}
use Rattle.kb_record.specs.Reading.{Reading, read, unexpected, too_deep, Parse, and_then, reading_map, behind, passes, passes_to, power_behind, read_name, read_number, read_power, factor_behind, factor_with, group_with, read_factor, read_group, read_word, row, begins_word}
use Rattle.kb_record.specs.declared.cursor.Mark.TheVariants.{Star, Caret, OpenRound, CloseRound}
use Rattle.kb_record.proofs.PassedMarks.{behind-shorter}
use Rattle.kb_record.proofs.Depths.{read_word_is}
use Rattle.kb_record.proofs.ReadingForms.{Form, Meets, Stands}
use Rattle.kb_record.proofs.WordForms.{factor_form, factor_meets, group_meets}
use Rattle.kb_record.proofs.Elsewhere.{Ground, Beyond, Along, Past, Same, Any, past_same, past_as, same_as, past_then, same_then, Kept, Marks, both, gone, none, marks, mark_beyond}
use Rattle.kb_record.proofs.KeptTokens.{past_mark, same_mark, kept_as, kept_name, kept_number, kept_passes, SameTurn, step, kept_step, kept_row, row_past}

-- ---- steps take tokens

stands_shorter : {A : Type 0} (F : Form A) (d : ℕ) (ts r : List Token) (x : A) → Stands F d ts r x → length r ≤ length ts
stands_shorter F d ts r x h = omega (arith, ap length h.whole, length-append (F.spelled x) r)

pub meets_shorter : {A : Type 0} (F : Form A) (d k : ℕ) (ts r : List Token) (x : A) (reading : Reading A) → Meets F d k ts reading → reading ≡ read x r → length r ≤ length ts
meets_shorter F d k ts r x reading h e = let P : Reading _ → Type 0 = λ y. Meets F d k ts y in stands_shorter F d ts r x (subst P e h)

abbrev left_by : {A : Type 0} → Reading A → List Token
left_by (read x r) = r
left_by (unexpected e r) = r
left_by (too_deep r) = r

abbrev pub comes : {A : Type 0} → Reading (A × Bool) → Bool
comes (read p r) = p.1
comes _ = false

module _ (g : Ground) {A : Type 0} (item : Parse A) (goes_on : Parse Bool) (item_shorter : (ts r : List Token) (x : A) → item ts ≡ read x r → length r ≤ length ts) (turn_shorter : (ts r : List Token) → goes_on ts ≡ read true r → length r < length ts) where
  turned : (ts s r : List Token) (x y : A) (turn : Reading Bool) → goes_on s ≡ turn → length s ≤ length ts → and_then {B = A × Bool} turn (λ more s'. read (y, more) s') ≡ read (x, true) r → length r < length ts
  turned ts s r x y (read true s') e le h = let same : s' ≡ r = ap left_by h in let less = turn_shorter s s' e in omega (arith, less, le, ap length same)
  turned ts s r x y (read false s') e le h = let never = ap comes h in cc
  turned ts s r x y (unexpected e' s') e le h = cc
  turned ts s r x y (too_deep s') e le h = cc

  stepped : (ts r : List Token) (x : A) (reading : Reading A) → item ts ≡ reading → and_then {B = A × Bool} reading (λ y s. and_then (goes_on s) (λ more s'. read (y, more) s')) ≡ read (x, true) r → length r < length ts
  stepped ts r x (read y s) e h = turned ts s r x y (goes_on s) refl (item_shorter ts s y e) h
  stepped ts r x (unexpected e' s) e h = cc
  stepped ts r x (too_deep s) e h = cc

  pub step_shorter : (ts r : List Token) (x : A) → step g item goes_on ts ≡ read (x, true) r → length r < length ts
  step_shorter ts r x h = stepped ts r x (item ts) refl h

star_to : (ts r : List Token) (o : Option (List Token)) → behind Star ts ≡ o → passes_to ts o ≡ read true r → length r < length ts
star_to ts r None e h = cc
star_to ts r (Some s) e h = let same : s ≡ r = ap left_by h in let less = behind-shorter Star ts s e in omega (arith, less, ap length same)

star_shorter : (ts r : List Token) → passes Star ts ≡ read true r → length r < length ts
star_shorter ts r h = star_to ts r (behind Star ts) refl h

-- ---- words

module _ (g : Ground) where
  pub past_map : {A B : Type 0} (f : A → B) (x : Reading A) → Past g x → Past g (reading_map f x)
  past_map f x h = past_then g x _ h (λ a r k. k)

  pub same_map : {A B : Type 0} (f f' : A → B) (x y : Reading A) → Same g (Any g) x y → Same g (Any g) (reading_map f x) (reading_map f' y)
  same_map f f' x y h = same_then g (Any g) (Any g) x y _ _ h (λ a r b. b) (λ a b r s e w al. inr (_, s, refl, tt, al))

  power_past : (ts : List Token) (o : Option (List Token)) → behind Caret ts ≡ o → Beyond g ts → Past g (power_behind ts o)
  power_past ts None e h = h
  power_past ts (Some r) e h = past_map Some (read_number r) ((kept_number g).past r (mark_beyond g Caret ts r e h))

  power_marks : (ts us : List Token) → Along g ts us → Marks g Caret ts us → Same g (Any g) (read_power ts) (read_power us)
  power_marks ts us h (both r s f f' k) =
      let found : Same g (Any g) (reading_map Some (read_number r)) (reading_map Some (read_number s)) = same_map Some Some (read_number r) (read_number s) ((kept_number g).same r s k) in
      same_as g (Any g) _ _ _ _ (ap (power_behind ts) f) (ap (power_behind us) f') found
  power_marks ts us h (gone r f beyond) = past_same g (Any g) _ _ (past_as g _ _ (ap (power_behind ts) f) (past_map Some (read_number r) ((kept_number g).past r beyond)))
  power_marks ts us h (none f f') = let found : Same g (Any g) (read None ts) (read None us) = inr (None, us, refl, tt, h) in same_as g (Any g) _ _ _ _ (ap (power_behind ts) f) (ap (power_behind us) (f' (inl tt))) found

  pub kept_power : Kept g (Any g) read_power
  kept_power = record { past = λ ts h. power_past ts (behind Caret ts) refl h; same = λ ts us h. power_marks ts us h (marks g Caret ts us h) }

  module _ (group : Parse Factors) (kept : Kept g (Any g) group) where
    powered_past : {A : Type 0} (make : A → Option ℤ → Factor) (a : A) (r : List Token) → Beyond g r → Past g (reading_map (make a) (read_power r))
    powered_past make a r h = past_map (make a) (read_power r) (kept_power.past r h)

    powered_same : {A : Type 0} (make : A → Option ℤ → Factor) (a b : A) (r s : List Token) → Along g r s → Same g (Any g) (reading_map (make a) (read_power r)) (reading_map (make b) (read_power s))
    powered_same make a b r s h = same_map (make a) (make b) (read_power r) (read_power s) (kept_power.same r s h)

    group_past : (inside : List Token) → Beyond g inside → Past g (and_then (group inside) (λ factors rest. reading_map (grouped factors) (read_power rest)))
    group_past inside h = past_then g (group inside) _ (kept.past inside h) (powered_past grouped)

    pub factor_past : (ts : List Token) (o : Option (List Token)) → behind OpenRound ts ≡ o → Beyond g ts → Past g (factor_behind group ts o)
    factor_past ts None e h = past_then g (read_name ts) _ ((kept_name g).past ts h) (powered_past named)
    factor_past ts (Some inside) e h = group_past inside (mark_beyond g OpenRound ts inside e h)

    factor_marks : (ts us : List Token) → Along g ts us → Marks g OpenRound ts us → Same g (Any g) (factor_with group ts) (factor_with group us)
    factor_marks ts us h (both r s f f' k) =
        same_as g (Any g) _ _ _ _ (ap (factor_behind group ts) f) (ap (factor_behind group us) f') (same_then g (Any g) (Any g) (group r) (group s) _ _ (kept.same r s k) (powered_past grouped) (λ a b r' s' e w al. powered_same grouped a b r' s' al))
    factor_marks ts us h (gone r f beyond) = past_same g (Any g) _ _ (past_as g _ _ (ap (factor_behind group ts) f) (group_past r beyond))
    factor_marks ts us h (none f f') =
        same_as g (Any g) _ _ _ _ (ap (factor_behind group ts) f) (ap (factor_behind group us) (f' (inl tt)))
        (same_then g (Any g) (Any g) (read_name ts) (read_name us) _ _ ((kept_name g).same ts us h) (powered_past named) (λ a b r' s' e w al. powered_same named a b r' s' al))

    pub kept_factor : Kept g (Any g) (factor_with group)
    kept_factor = record { past = λ ts h. factor_past ts (behind OpenRound ts) refl h; same = λ ts us h. factor_marks ts us h (marks g OpenRound ts us h) }

    -- a name or a bracket is passed
    pub factor_away : (ts : List Token) → begins_word ts ≡ true → ts ≡ g.rest → Past g (factor_with group ts)
    factor_away (name a ∷ ts) e w = powered_past named a ts (let whole = ap length w in omega arith)
    factor_away (open_round ∷ ts) e w = group_past ts (let whole = ap length w in omega arith)
    factor_away _ e w = cc

  pub factor_steps : (d : ℕ) (ts r : List Token) (x : Factor) → step g (read_factor d) (passes Star) ts ≡ read (x, true) r → length r < length ts
  factor_steps d ts r x h = step_shorter g (read_factor d) (passes Star) (λ ts' r' x' e. meets_shorter factor_form d (suc d) ts' r' x' (read_factor d ts') (factor_meets d (group_meets d) ts') e) star_shorter ts r x h

  pub kept_map : {A B : Type 0} (f : A → B) (parse : Parse A) → Kept g (Any g) parse → Kept g (Any g) (λ ts. reading_map f (parse ts))
  kept_map f parse h = record { past = λ ts k. past_map f (parse ts) (h.past ts k); same = λ ts us k. same_map f f (parse ts) (parse us) (h.same ts us k) }

  word_from : (d : ℕ) → Kept g (Any g) (read_group d) → Kept g (Any g) (read_word d)
  word_from d group =
      kept_as g (Any g) (read_word d) _ (read_word_is d)
      (kept_map factors_of (row (read_factor d) (passes Star)) (kept_row g (read_factor d) (passes Star) (kept_step g (read_factor d) (passes Star) (kept_factor (read_group d) group) (kept_passes g Star tt)) (factor_steps d)))

  group_from : (word : Parse Factors) → Kept g (Any g) word → Kept g (Any g) (group_with word)
  group_from word h = record {
    past = λ ts k. past_then g (word ts) _ (h.past ts k) (λ fs r b. past_mark g CloseRound wanted.Mark r (read fs) b (λ s c. c));
    same = λ ts us k. same_then g (Any g) (Any g) (word ts) (word us) _ _ (h.same ts us k) (λ fs r b. past_mark g CloseRound wanted.Mark r (read fs) b (λ s c. c))
        (λ fs fs' r s e w al. same_mark g (Any g) CloseRound wanted.Mark r s (read fs) (read fs') (inl tt) al (λ r' c. c) (λ r' s' al'. inr (fs', s', refl, tt, al')));
  }

  group_none : Kept g (Any g) (read_group 0)
  group_none = record { past = λ ts k. tt; same = λ ts us k. tt }

  pub kept_word : (d : ℕ) → Kept g (Any g) (read_word d)
  kept_word zero = word_from 0 group_none
  kept_word (suc d) = word_from (suc d) (group_from (read_word d) (kept_word d))

  pub kept_group : (d : ℕ) → Kept g (Any g) (read_group d)
  kept_group zero = group_none
  kept_group (suc d) = group_from (read_word d) (kept_word d)

  steps_kept : (d : ℕ) → Kept g (SameTurn g) (step g (read_factor d) (passes Star))
  steps_kept d = kept_step g (read_factor d) (passes Star) (kept_factor (read_group d) (kept_group d)) (kept_passes g Star tt)

  -- where a word begins, some of it is read
  pub word_away : (d : ℕ) (ts : List Token) → begins_word ts ≡ true → ts ≡ g.rest → Past g (read_word d ts)
  word_away d ts e w =
      past_as g _ _ (read_word_is d ts)
      (past_map factors_of (row (read_factor d) (passes Star) ts)
      (row_past g (read_factor d) (passes Star) (steps_kept d) ts
      (past_then g (read_factor d ts) _ (factor_away (read_group d) (kept_group d) ts e w) (λ x r c. past_then g (passes Star r) _ ((kept_passes g Star tt).past r c) (λ more s k. k)))))
