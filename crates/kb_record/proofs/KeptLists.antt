-- Lists and records, read elsewhere.
use Rattle.std.proofs.Common.{◌≡◌, ◌⊎◌, inl, inr, ℕ, zero, suc, ◌≤◌, ℤ, List, [], ◌∷◌, length, Bool, true, false, if◌then◌else◌, Option, Some, None, refl, ap, arith}
use Rattle.kb_lexing.specs.Token.{Token, name, number, close_square, comma, dots}
use Rattle.kb_lexing.specs.Possible.{IsExpected, IsMark}
use Rattle.kb_lexing.specs.declared.place.Expected.TheVariants as wanted
use Rattle.kb_record.specs.Tree.{Value, list_value, range_value, no_places}
use Rattle.kb_record.specs.View.{places_of}
use Rattle.kb_record.specs.Reading.{Reading, read, unexpected, Parse, and_then, reading_map, behind, past, passes_comma, read_name, read_number, row, place_with, field_with, range_from, list_behind, list_from, list_with, read_places, after_items, first_place, first_number, numbered_list, number_with, ends_place, fields_behind, fields_with, read_value, read_list, read_fields}
use Rattle.kb_record.specs.declared.cursor.Mark.TheVariants.{Assign, CloseRound, CloseSquare}
use Rattle.kb_record.proofs.ReadRows.{comma-shorter}
use Rattle.kb_record.proofs.ValueForms.{place_to, field_meets, value_meets}
use Rattle.kb_record.proofs.ValueParts.{place_form, field_form}
use Rattle.kb_record.proofs.Elsewhere.{Ground, kinds, Beyond, Along, along_on, Past, Same, Any, past_same, past_as, same_as, past_then, same_then, Kept, Marks, both, gone, none, marks, mark_beyond}
use Rattle.kb_record.proofs.KeptTokens.{past_mark, same_mark, kept_name, kept_number, kept_comma, Equal, SameTurn, step, kept_step, kept_row, row_past, row_fails, Starts, next_same}
use Rattle.kb_record.proofs.KeptWords.{meets_shorter, step_shorter, past_map, same_map}
use Rattle.kb_record.proofs.KeptValues.{starts_value, KeptValue, value_from, shorter}

-- a place or the end of one begins with it
abbrev starts_place : Token → Bool
starts_place comma = true
starts_place close_square = true
starts_place t = starts_value t

-- behind the number that comes first in a list
abbrev follows_number : Token → Bool
follows_number dots = true
follows_number comma = true
follows_number close_square = true
follows_number _ = false

follows_wanted : (t : Token) → follows_number t ≡ true → IsExpected wanted.Dots t ⊎ IsMark t
follows_wanted dots e = inl tt
follows_wanted comma e = inr tt
follows_wanted close_square e = inr tt
follows_wanted _ e = cc

module _ (g : Ground) (d : ℕ) (value : KeptValue g d) where
  abbrev V : Parse Value
  V = read_value d

  -- ---- places

  abbrev commas : Kept g (Equal g) (passes_comma CloseSquare wanted.Mark)
  commas = kept_comma g CloseSquare wanted.Mark tt

  abbrev P : Parse (Option Value × Bool)
  P = step g (place_with V) (passes_comma CloseSquare wanted.Mark)

  place_past : (ts : List Token) (b : Bool) → Beyond g ts → Past g (if b then read None ts else reading_map Some (V ts))
  place_past ts true h = h
  place_past ts false h = past_map g Some (V ts) (value.kept.past ts h)

  -- behind a place
  abbrev behind_place : Option Value → Parse (Option Value × Bool)
  behind_place x r = and_then (passes_comma CloseSquare wanted.Mark r) (λ more s. read (x, more) s)

  turned_past : (x : Option Value) (r : List Token) → Beyond g r → Past g (behind_place x r)
  turned_past x r h = past_then g (passes_comma CloseSquare wanted.Mark r) _ (commas.past r h) (λ more s k. k)

  step_past : (ts : List Token) → Beyond g ts → Past g (P ts)
  step_past ts h = past_then g (place_with V ts) _ (place_past ts (ends_place ts) h) turned_past

  place_wanted : (t : Token) → starts_place t ≡ true → IsExpected wanted.Value t ⊎ IsMark t
  place_wanted comma e = inr tt
  place_wanted close_square e = inr tt
  place_wanted t e = value.starts.wanted t e

  -- a place with a value, and what comes behind it
  abbrev valued : Reading Value → Reading (Option Value × Bool)
  valued reading = and_then (reading_map Some reading) behind_place

  step_fails : (t : Token) (more : List Token) → starts_place t ≡ false → P (t ∷ more) ≡ unexpected wanted.Value (t ∷ more)
  step_fails comma more e = cc
  step_fails close_square more e = cc
  step_fails t more e = ap valued (value.starts.fails t more e)

  step_away : (t : Token) (more : List Token) → t ∷ more ≡ g.rest → starts_place t ≡ true → Past g (P (t ∷ more))
  step_away comma more w e = shorter g comma more w
  step_away close_square more w e = shorter g close_square more w
  step_away t more w e = past_then g (reading_map Some (V (t ∷ more))) _ (past_map g Some (V (t ∷ more)) (value.starts.away t more w e)) turned_past

  step_starts : Starts g wanted.Value P starts_place
  step_starts = record { nil = ap valued value.starts.nil; fails = step_fails; away = step_away; wanted = place_wanted }

  -- behind a place one and the same comes
  turned_same : (x y : Option Value) (r s : List Token) → Along g r s → Same g (SameTurn g) (behind_place x r) (behind_place y s)
  turned_same x y r s al =
      same_then g (Equal g) (SameTurn g) (passes_comma CloseSquare wanted.Mark r) (passes_comma CloseSquare wanted.Mark s) _ _ (commas.same r s al) (λ more s' k. k) (λ more more' r' s' e w al'. inr ((y, more'), s', refl, w, al'))

  valued_same : (ts us : List Token) → Along g ts us → Same g (SameTurn g) (valued (V ts)) (valued (V us))
  valued_same ts us h = same_then g (Any g) (SameTurn g) (reading_map Some (V ts)) (reading_map Some (V us)) _ _ (same_map g Some Some (V ts) (V us) (value.kept.same ts us h)) turned_past (λ x y r s e w al. turned_same x y r s al)

  step_token : (t : Token) (ts us : List Token) → Along g ts us → Same g (SameTurn g) (P (t ∷ ts)) (P (t ∷ us))
  step_token comma ts us h = turned_same None None (comma ∷ ts) (comma ∷ us) (along_on g comma comma ts us (inl refl) h)
  step_token close_square ts us h = turned_same None None (close_square ∷ ts) (close_square ∷ us) (along_on g close_square close_square ts us (inl refl) h)
  step_token t ts us h = valued_same (t ∷ ts) (t ∷ us) (along_on g t t ts us (inl refl) h)

  kept_steps : Kept g (SameTurn g) P
  kept_steps = record {
    past = step_past;
    same = next_same g (SameTurn g) wanted.Value P starts_place step_starts
        (λ t u ts us kind h. kinds t u (λ x y. Same g (SameTurn g) (P (x ∷ ts)) (P (y ∷ us))) kind (λ x. step_token x ts us h) (λ a b. valued_same (name a ∷ ts) (name b ∷ us) (along_on g (name a) (name b) ts us (inr (tt, tt)) h)));
  }

  place_shorter : (ts r : List Token) (x : Option Value) → place_with V ts ≡ read x r → length r ≤ length ts
  place_shorter ts r x e = meets_shorter place_form d (suc d) ts r x (place_with V ts) (place_to d ts (ends_place ts) (V ts) (value_meets d ts)) e

  kept_places : Kept g (Any g) (read_places V)
  kept_places = kept_row g (place_with V) (passes_comma CloseSquare wanted.Mark) kept_steps (step_shorter g (place_with V) (passes_comma CloseSquare wanted.Mark) place_shorter (λ ts r e. comma-shorter CloseSquare wanted.Mark ts r true e))

  abbrev listing : List (Option Value) → Value
  listing places = list_value (places_of places)

  -- ---- ranges and numbers

  range_end_past : (from to : ℤ) (r : List Token) → Beyond g r → Past g (past wanted.Mark r (behind CloseSquare r) (read (range_value from to)))
  range_end_past from to r h = past_mark g CloseSquare wanted.Mark r (read (range_value from to)) h (λ s k. k)

  kept_range : (y z : ℤ) → ((ts : List Token) → Beyond g ts → Past g (range_from y ts)) × ((ts us : List Token) → Along g ts us → Same g (Any g) (range_from y ts) (range_from z us))
  kept_range y z = (
    λ ts h. past_then g (read_number ts) _ ((kept_number g).past ts h) (range_end_past y),
    λ ts us h. same_then g (Any g) (Any g) (read_number ts) (read_number us) _ _ ((kept_number g).same ts us h) (range_end_past y)
        (λ a b r s e w al. same_mark g (Any g) CloseSquare wanted.Mark r s (read (range_value y a)) (read (range_value z b)) (inl tt) al (λ r' k. k) (λ r' s' al'. inr (range_value z b, s', refl, tt, al'))),
  )

  abbrev going_on : ℤ → Bool → Parse (List (Option Value))
  going_on z more rest = if more then after_items (first_place (Some z)) (read_places V rest) else read (first_place (Some z)) rest

  going_past : (z : ℤ) (more : Bool) (rest : List Token) → Beyond g rest → Past g (going_on z more rest)
  going_past z true rest h = past_map g _ (read_places V rest) (kept_places.past rest h)
  going_past z false rest h = h

  numbered_past : (z : ℤ) (ts : List Token) → Beyond g ts → Past g (numbered_list V z (passes_comma CloseSquare wanted.Dots ts))
  numbered_past z ts h = past_map g listing _ (past_then g (passes_comma CloseSquare wanted.Dots ts) (going_on z) ((kept_comma g CloseSquare wanted.Dots tt).past ts h) (going_past z))

  going_same : (y z : ℤ) (more more' : Bool) (r s : List Token) → more ≡ more' → Along g r s → Same g (Any g) (going_on y more r) (going_on z more' s)
  going_same y z true true r s e al = same_map g _ _ (read_places V r) (read_places V s) (kept_places.same r s al)
  going_same y z false false r s e al = inr (_, s, refl, tt, al)
  going_same y z true false r s e al = cc
  going_same y z false true r s e al = cc

  numbered_same : (y z : ℤ) (ts us : List Token) → Along g ts us → Same g (Any g) (numbered_list V y (passes_comma CloseSquare wanted.Dots ts)) (numbered_list V z (passes_comma CloseSquare wanted.Dots us))
  numbered_same y z ts us h =
      same_map g listing listing _ _
      (same_then g (Equal g) (Any g) (passes_comma CloseSquare wanted.Dots ts) (passes_comma CloseSquare wanted.Dots us) (going_on y) (going_on z) ((kept_comma g CloseSquare wanted.Dots tt).same ts us h) (going_past y) (λ more more' r s e w al. going_same y z more more' r s w al))

  number_past : (z : ℤ) (ts : List Token) → Beyond g ts → Past g (number_with V z ts)
  number_past z [] h = numbered_past z [] h
  number_past z (dots ∷ ts) h = (kept_range z z).0 ts (omega arith)
  number_past z (t ∷ ts) h = numbered_past z (t ∷ ts) h

  number_fails : (z : ℤ) (t : Token) (more : List Token) → follows_number t ≡ false → number_with V z (t ∷ more) ≡ unexpected wanted.Dots (t ∷ more)
  number_fails z dots more e = cc
  number_fails z comma more e = cc
  number_fails z close_square more e = cc
  number_fails z t more e = refl

  number_away : (z : ℤ) (t : Token) (more : List Token) → t ∷ more ≡ g.rest → follows_number t ≡ true → Past g (number_with V z (t ∷ more))
  number_away z dots more w e = (kept_range z z).0 more (shorter g dots more w)
  number_away z comma more w e = past_map g listing (after_items (first_place (Some z)) (read_places V more)) (going_past z true more (shorter g comma more w))
  number_away z close_square more w e = shorter g close_square more w
  number_away z _ more w e = cc

  number_starts : (z : ℤ) → Starts g wanted.Dots (number_with V z) follows_number
  number_starts z = record { nil = refl; fails = number_fails z; away = number_away z; wanted = follows_wanted }

  number_token : (z : ℤ) (t : Token) (ts us : List Token) → Along g ts us → Same g (Any g) (number_with V z (t ∷ ts)) (number_with V z (t ∷ us))
  number_token z dots ts us h = (kept_range z z).1 ts us h
  number_token z t ts us h = numbered_same z z (t ∷ ts) (t ∷ us) (along_on g t t ts us (inl refl) h)

  number_same : (z : ℤ) (ts us : List Token) → Along g ts us → Same g (Any g) (number_with V z ts) (number_with V z us)
  number_same z =
      next_same g (Any g) wanted.Dots (number_with V z) follows_number (number_starts z)
      (λ t u ts us kind h. kinds t u (λ x y. Same g (Any g) (number_with V z (x ∷ ts)) (number_with V z (y ∷ us))) kind (λ x. number_token z x ts us h) (λ a b. numbered_same z z (name a ∷ ts) (name b ∷ us) (along_on g (name a) (name b) ts us (inr (tt, tt)) h)))

  -- ---- lists

  -- a list that isn't closed at once
  abbrev open_list : Parse Value
  open_list ts = list_behind V ts None (first_number ts)

  listed_past : (ts : List Token) → Beyond g ts → Past g (list_from (read_places V ts))
  listed_past ts h = past_map g listing (read_places V ts) (kept_places.past ts h)

  open_past : (ts : List Token) → Beyond g ts → Past g (open_list ts)
  open_past [] h = listed_past [] h
  open_past (number z ∷ ts) h = number_past z ts (omega arith)
  open_past (t ∷ ts) h = listed_past (t ∷ ts) h

  places_fail : (ts : List Token) → P ts ≡ unexpected wanted.Value ts → list_from (read_places V ts) ≡ unexpected wanted.Value ts
  places_fail ts h = ap list_from (row_fails g (place_with V) (passes_comma CloseSquare wanted.Mark) wanted.Value ts h)

  open_fails : (t : Token) (more : List Token) → starts_place t ≡ false → open_list (t ∷ more) ≡ unexpected wanted.Value (t ∷ more)
  open_fails (number z) more e = cc
  open_fails t more e = places_fail (t ∷ more) (step_fails t more e)

  places_away : (t : Token) (more : List Token) → t ∷ more ≡ g.rest → starts_place t ≡ true → Past g (list_from (read_places V (t ∷ more)))
  places_away t more w e = past_map g listing (read_places V (t ∷ more)) (row_past g (place_with V) (passes_comma CloseSquare wanted.Mark) kept_steps (t ∷ more) (step_away t more w e))

  open_away : (t : Token) (more : List Token) → t ∷ more ≡ g.rest → starts_place t ≡ true → Past g (open_list (t ∷ more))
  open_away (number z) more w e = number_past z more (shorter g (number z) more w)
  open_away t more w e = places_away t more w e

  open_starts : Starts g wanted.Value open_list starts_place
  open_starts = record { nil = places_fail [] step_starts.nil; fails = open_fails; away = open_away; wanted = place_wanted }

  listed_same : (ts us : List Token) → Along g ts us → Same g (Any g) (list_from (read_places V ts)) (list_from (read_places V us))
  listed_same ts us h = same_map g listing listing (read_places V ts) (read_places V us) (kept_places.same ts us h)

  open_token : (t : Token) (ts us : List Token) → Along g ts us → Same g (Any g) (open_list (t ∷ ts)) (open_list (t ∷ us))
  open_token (number z) ts us h = number_same z ts us h
  open_token t ts us h = listed_same (t ∷ ts) (t ∷ us) (along_on g t t ts us (inl refl) h)

  open_same : (ts us : List Token) → Along g ts us → Same g (Any g) (open_list ts) (open_list us)
  open_same =
      next_same g (Any g) wanted.Value open_list starts_place open_starts
      (λ t u ts us kind h. kinds t u (λ x y. Same g (Any g) (open_list (x ∷ ts)) (open_list (y ∷ us))) kind (λ x. open_token x ts us h) (λ a b. listed_same (name a ∷ ts) (name b ∷ us) (along_on g (name a) (name b) ts us (inr (tt, tt)) h)))

  list_past : (ts : List Token) (o : Option (List Token)) → behind CloseSquare ts ≡ o → Beyond g ts → Past g (list_behind V ts o (first_number ts))
  list_past ts None e h = open_past ts h
  list_past ts (Some r) e h = mark_beyond g CloseSquare ts r e h

  list_marks : (ts us : List Token) → Along g ts us → Marks g CloseSquare ts us → Same g (Any g) (list_with V ts) (list_with V us)
  list_marks ts us h (both r s f f' k) =
      let found : Same g (Any g) (read (list_value no_places) r) (read (list_value no_places) s) = inr (list_value no_places, s, refl, tt, k) in
      same_as g (Any g) _ _ _ _ (ap (λ o. list_behind V ts o (first_number ts)) f) (ap (λ o. list_behind V us o (first_number us)) f') found
  list_marks ts us h (gone r f beyond) = past_same g (Any g) _ _ (past_as g _ _ (ap (λ o. list_behind V ts o (first_number ts)) f) beyond)
  list_marks ts us h (none f f') = same_as g (Any g) _ _ _ _ (ap (λ o. list_behind V ts o (first_number ts)) f) (ap (λ o. list_behind V us o (first_number us)) (f' (inl tt))) (open_same ts us h)

  pub kept_list : Kept g (Any g) (list_with V)
  kept_list = record { past = λ ts h. list_past ts (behind CloseSquare ts) refl h; same = λ ts us h. list_marks ts us h (marks g CloseSquare ts us h) }

  -- ---- fields

  abbrev behind_name : List ℕ → Parse (List ℕ × Value)
  behind_name a r = past wanted.Assign r (behind Assign r) (λ others. reading_map (λ tree. (a, tree)) (V others))

  field_rest_past : (a : List ℕ) (r : List Token) → Beyond g r → Past g (behind_name a r)
  field_rest_past a r h = past_mark g Assign wanted.Assign r _ h (λ s k. past_map g _ (V s) (value.kept.past s k))

  kept_field : Kept g (Any g) (field_with V)
  kept_field = record {
    past = λ ts h. past_then g (read_name ts) _ ((kept_name g).past ts h) field_rest_past;
    same = λ ts us h. same_then g (Any g) (Any g) (read_name ts) (read_name us) _ _ ((kept_name g).same ts us h) field_rest_past
        (λ a b r s e w al. same_mark g (Any g) Assign wanted.Assign r s _ _ (inr tt) al (λ r' k. past_map g _ (V r') (value.kept.past r' k)) (λ r' s' al'. same_map g _ _ (V r') (V s') (value.kept.same r' s' al')));
  }

  field_shorter : (ts r : List Token) (x : List ℕ × Value) → field_with V ts ≡ read x r → length r ≤ length ts
  field_shorter ts r x e = meets_shorter field_form d (suc d) ts r x (field_with V ts) (field_meets d V (value_meets d) ts) e

  kept_some : Kept g (Any g) (row (field_with V) (passes_comma CloseRound wanted.Mark))
  kept_some =
      kept_row g (field_with V) (passes_comma CloseRound wanted.Mark) (kept_step g (field_with V) (passes_comma CloseRound wanted.Mark) kept_field (kept_comma g CloseRound wanted.Mark tt))
      (step_shorter g (field_with V) (passes_comma CloseRound wanted.Mark) field_shorter (λ ts r e. comma-shorter CloseRound wanted.Mark ts r true e))

  fields_past : (ts : List Token) (o : Option (List Token)) → behind CloseRound ts ≡ o → Beyond g ts → Past g (fields_behind V ts o)
  fields_past ts None e h = kept_some.past ts h
  fields_past ts (Some r) e h = mark_beyond g CloseRound ts r e h

  fields_marks : (ts us : List Token) → Along g ts us → Marks g CloseRound ts us → Same g (Any g) (fields_with V ts) (fields_with V us)
  fields_marks ts us h (both r s f f' k) =
      let found : Same g (Any g) (fields_behind V ts (Some r)) (fields_behind V us (Some s)) = inr (_, s, refl, tt, k) in
      same_as g (Any g) _ _ _ _ (ap (fields_behind V ts) f) (ap (fields_behind V us) f') found
  fields_marks ts us h (gone r f beyond) = past_same g (Any g) _ _ (past_as g _ _ (ap (fields_behind V ts) f) beyond)
  fields_marks ts us h (none f f') = same_as g (Any g) _ _ _ _ (ap (fields_behind V ts) f) (ap (fields_behind V us) (f' (inl tt))) (kept_some.same ts us h)

  pub kept_fields : Kept g (Any g) (fields_with V)
  kept_fields = record { past = λ ts h. fields_past ts (behind CloseRound ts) refl h; same = λ ts us h. fields_marks ts us h (marks g CloseRound ts us h) }

no_list : (g : Ground) → Kept g (Any g) (read_list 0)
no_list g = record { past = λ ts h. tt; same = λ ts us h. tt }

no_fields : (g : Ground) → Kept g (Any g) (read_fields 0)
no_fields g = record { past = λ ts h. tt; same = λ ts us h. tt }

pub kept_value : (g : Ground) (d : ℕ) → KeptValue g d
kept_value g zero = value_from g 0 (no_list g) (no_fields g)
kept_value g (suc d) = value_from g (suc d) (kept_list g d (kept_value g d)) (kept_fields g d (kept_value g d))

pub fields_kept : (g : Ground) (d : ℕ) → Kept g (Any g) (read_fields d)
fields_kept g zero = no_fields g
fields_kept g (suc d) = kept_fields g d (kept_value g d)
