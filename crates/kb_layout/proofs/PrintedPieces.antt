-- Texts that are printed piece by piece, and the printed texts as pieces.
use Rattle.std.proofs.Common.{◌≡◌, ℕ, suc, ◌+◌, ◌<◌, ◌≤◌, ◌*◌, List, [], ◌∷◌, ◌++◌, length, get_or, drop, replicate, Option, Some, None, map, true, false, Result, Ok, Err, OnOk, OnErr, refl, sym, ap, ◌∙◌, arith, append_assoc}
use Rattle.std.specs.Prelude.{codes, slice_get}
use Rattle.std.proofs.lemmas.Option.{slice_get_within, get_or_from_slice_get}
use Rattle.std.proofs.lemmas.List.{drop_more, drop_all, replicate-append-replicate}
use Rattle.kb_record.specs.Tree.{Value as ValueTree, number_value, string_value, record_value, list_value, range_value, word_value, Places, no_places, place, empty_place}
use Rattle.kb_record.specs.View.{places_of}
use Rattle.kb_layout.specs.Layout.{line_of, line_of_places, line_of_more_places, indent, text_of_value, lines_of_places, are_lists, is_table}
use Rattle.kb_layout.specs.Printing.{pieces, IsPrintedUpTo, line_at, line_of_place, row_at, row_of_place, list_of}

pub on_err : {T E P : Type 0} (r : Result T E) → P → OnErr r P
on_err (Ok x) p = tt
on_err (Err e) p = p

pub ok_then : {T E P Q : Type 0} (r : Result T E) → OnOk r P → (P → Q) → OnOk r Q
ok_then (Ok x) p f = f p
ok_then (Err e) p f = tt

pub err_then : {T E P Q : Type 0} (r : Result T E) → OnErr r P → (P → Q) → OnErr r Q
err_then (Ok x) p f = tt
err_then (Err e) p f = f p

-- one text and then another
pub both_behind : (a b c x y : List ℕ) → b ≡ a ++ x → c ≡ b ++ y → c ≡ a ++ (x ++ y)
both_behind a b c x y e f = f ∙ ap (λ t. t ++ y) e ∙ append_assoc a x y

pub kept_behind : (a b c x : List ℕ) → b ≡ a ++ x → (more : List ℕ) × (c ≡ b ++ more) → (more : List ℕ) × (c ≡ a ++ more)
kept_behind a b c x e kept = (x ++ kept.0, both_behind a b c x kept.0 e kept.1)

-- before the first piece
pub pieces_start : {A : Type 0} (text : A → List ℕ) (before between ending : List ℕ) (xs : List A) (old opening now : List ℕ) → now ≡ old ++ opening
    → IsPrintedUpTo text between ending xs (opening ++ (pieces text before between xs ++ ending)) old 0 before now
pieces_start text before between ending xs old opening now e = record { done = opening; so_far = e; to_come = refl }

-- what is printed keeps what stood there
pub pieces_kept : {A : Type 0} (text : A → List ℕ) (between ending : List ℕ) (xs : List A) (whole old before now : List ℕ) (index : ℕ) (more mid : List ℕ)
    → IsPrintedUpTo text between ending xs whole old index before now → mid ≡ now ++ more → (all : List ℕ) × (mid ≡ old ++ all)
pieces_kept text between ending xs whole old before now index more mid h e =
    (h.done ++ more, e ∙ ap (λ t. t ++ more) h.so_far ∙ append_assoc old h.done more)

-- the same where a piece is printed in part
pub pieces_kept_within : {A : Type 0} (text : A → List ℕ) (between ending : List ℕ) (xs : List A) (whole old before now : List ℕ) (index : ℕ) (half mid : List ℕ)
    → IsPrintedUpTo text between ending xs whole old index before now → half ≡ now ++ before → (more : List ℕ) × (mid ≡ half ++ more) → (all : List ℕ) × (mid ≡ old ++ all)
pieces_kept_within text between ending xs whole old before now index half mid h e kept =
    pieces_kept text between ending xs whole old before now index (before ++ kept.0) mid h (kept.1 ∙ ap (λ t. t ++ kept.0) e ∙ append_assoc now before kept.0)

-- one piece more
pub pieces_go : {A : Type 0} (text : A → List ℕ) (between ending : List ℕ) (xs : List A) (whole old before now : List ℕ) (index : ℕ) (x : A) (mid next : List ℕ)
    → IsPrintedUpTo text between ending xs whole old index before now → index < length xs → x ≡ get_or xs index x → mid ≡ now ++ before → next ≡ mid ++ text x
    → IsPrintedUpTo text between ending xs whole old (index + 1) between next
pieces_go text between ending xs whole old before now index x mid next h inside is e f =
    let split : drop index xs ≡ x ∷ drop (index + 1) xs = drop_more xs index x inside ∙ ap (λ y. y ∷ drop (index + 1) xs) (sym is) in
    let left = pieces text between between (drop (index + 1) xs) in
    record {
      done = h.done ++ (before ++ text x);
      so_far = f ∙ ap (λ t. t ++ text x) (e ∙ ap (λ t. t ++ before) h.so_far) ∙ ap (λ t. t ++ text x) (append_assoc old h.done before) ∙ append_assoc old (h.done ++ before) (text x) ∙ ap (λ t. old ++ t) (append_assoc h.done before (text x));
      to_come = h.to_come ∙ ap (λ ys. h.done ++ (pieces text before between ys ++ ending)) split
          ∙ ap (λ t. h.done ++ t) (append_assoc before (text x ++ left) ending ∙ ap (λ t. before ++ t) (append_assoc (text x) left ending) ∙ sym (append_assoc before (text x) (left ++ ending)))
          ∙ sym (append_assoc h.done (before ++ text x) (left ++ ending));
    }

-- the same where the piece was read at its place
pub pieces_go_at : {A : Type 0} (text : A → List ℕ) (between ending : List ℕ) (xs : List A) (whole old before now : List ℕ) (index : ℕ) (x : A) (mid next : List ℕ)
    → IsPrintedUpTo text between ending xs whole old index before now → slice_get xs index ≡ Some x → mid ≡ now ++ before → next ≡ mid ++ text x
    → IsPrintedUpTo text between ending xs whole old (index + 1) between next
pieces_go_at text between ending xs whole old before now index x mid next h is =
    pieces_go text between ending xs whole old before now index x mid next h (slice_get_within xs index x is) (sym (get_or_from_slice_get xs index x x is))

-- behind the last piece
pub pieces_end : {A : Type 0} (text : A → List ℕ) (between ending : List ℕ) (xs : List A) (whole old before now : List ℕ) (index : ℕ) (mid : List ℕ)
    → IsPrintedUpTo text between ending xs whole old index before now → length xs ≤ index → mid ≡ now ++ ending → mid ≡ old ++ whole
pieces_end text between ending xs whole old before now index mid h all e =
    let none : drop index xs ≡ [] = drop_all index xs all in
    e ∙ ap (λ t. t ++ ending) h.so_far ∙ append_assoc old h.done ending
    ∙ ap (λ t. old ++ t) (sym (h.to_come ∙ ap (λ ys. h.done ++ (pieces text before between ys ++ ending)) none))

-- ---- values on one line

more_places : (p : Option ValueTree) (ps : List (Option ValueTree)) (t : List ℕ) → line_of_more_places (places_of ps) ≡ t → line_of_more_places (places_of (p ∷ ps)) ≡ codes "," ++ (line_at p ++ t)
more_places None ps t e = ap (λ u. codes "," ++ u) e
more_places (Some v) ps t e = ap (λ u. codes "," ++ (line_of v ++ u)) e

more_place_pieces : {A : Type 0} (seen : A → Option ValueTree) (xs : List A) → line_of_more_places (places_of (map seen xs)) ≡ pieces (line_of_place seen) (codes ",") (codes ",") xs
more_place_pieces seen [] = refl
more_place_pieces seen (x ∷ xs) = more_places (seen x) (map seen xs) _ (more_place_pieces seen xs)

place_pieces : {A : Type 0} (seen : A → Option ValueTree) (xs : List A) → pieces (line_of_place seen) [] (codes ",") xs ≡ line_of_places (places_of (map seen xs))
place_pieces seen [] = refl
place_pieces seen (x ∷ xs) =
    ap (λ t. line_at (seen x) ++ t) (sym (more_place_pieces seen xs)) ∙ first (seen x) (map seen xs)
  where
    first : (p : Option ValueTree) (ps : List (Option ValueTree)) → line_at p ++ line_of_more_places (places_of ps) ≡ line_of_places (places_of (p ∷ ps))
    first None ps = refl
    first (Some v) ps = refl

list_pieces : {A : Type 0} (seen : A → Option ValueTree) (xs : List A) → codes "[" ++ (pieces (line_of_place seen) [] (codes ",") xs ++ codes "]") ≡ line_of (list_of seen xs)
list_pieces seen xs = ap (λ t. codes "[" ++ (t ++ codes "]")) (place_pieces seen xs)

-- a list of items on one line, printed up to a place
abbrev pub IsListUpTo : {A : Type 0} → (A → Option ValueTree) → List A → List ℕ → ℕ → List ℕ → List ℕ → Type 0
IsListUpTo seen xs old index before now =
    IsPrintedUpTo (line_of_place seen) (codes ",") (codes "]") xs (codes "[" ++ (pieces (line_of_place seen) [] (codes ",") xs ++ codes "]")) old index before now

pub list_start : {A : Type 0} (seen : A → Option ValueTree) (xs : List A) (old now : List ℕ) → now ≡ old ++ codes "[" → IsListUpTo seen xs old 0 [] now
list_start seen xs old now e = pieces_start (line_of_place seen) [] (codes ",") (codes "]") xs old (codes "[") now e

pub list_end : {A : Type 0} (seen : A → Option ValueTree) (xs : List A) (old before now : List ℕ) (index : ℕ) (mid : List ℕ)
    → IsListUpTo seen xs old index before now → length xs ≤ index → mid ≡ now ++ codes "]" → mid ≡ old ++ line_of (list_of seen xs)
list_end seen xs old before now index mid h all e =
    pieces_end _ _ _ _ _ _ _ _ _ _ h all e ∙ ap (λ t. old ++ t) (list_pieces seen xs)

-- ---- values at a level

indent_more : (n : ℕ) → indent n ++ codes "  " ≡ indent (n + 1)
indent_more n = replicate-append-replicate (2 * n) 2 32 ∙ ap (λ k. replicate k 32) (let e : 2 * n + 2 ≡ 2 * (n + 1) = omega arith in e)

pub indent_goes : (old now mid : List ℕ) (n : ℕ) → now ≡ old ++ indent n → mid ≡ now ++ codes "  " → mid ≡ old ++ indent (n + 1)
indent_goes old now mid n e f = f ∙ ap (λ t. t ++ codes "  ") e ∙ append_assoc old (indent n) (codes "  ") ∙ ap (λ t. old ++ t) (indent_more n)

pub lists_behind : (v : ValueTree) (others : Places) → are_lists (place v others) ≡ true → are_lists others ≡ true
lists_behind (list_value _) others e = e
lists_behind (number_value _) others e = cc
lists_behind (string_value _) others e = cc
lists_behind (record_value _) others e = cc
lists_behind (range_value _ _) others e = cc
lists_behind (word_value _) others e = cc

some_rows : (level : ℕ) (v : ValueTree) (ps : List (Option ValueTree)) (after : List ℕ) → are_lists (places_of (Some v ∷ ps)) ≡ true
    → row_at level (Some v) ++ (pieces (row_at level) (codes ",\n") (codes ",\n") ps ++ (codes "\n" ++ after)) ≡ lines_of_places level (places_of (Some v ∷ ps)) ++ after
some_rows level v [] after e = simp append_assoc
some_rows level v (None ∷ ps) after e = let none = lists_behind v (places_of (None ∷ ps)) e in absurd cc
some_rows level v (Some w ∷ ps) after e =
    let more = some_rows level w ps after (lists_behind v (places_of (Some w ∷ ps)) e) in
    let row = row_at level (Some v) in
    let here : row ++ (codes ",\n" ++ (lines_of_places level (places_of (Some w ∷ ps)) ++ after)) ≡ lines_of_places level (places_of (Some v ∷ (Some w ∷ ps))) ++ after = simp append_assoc in
    ap (λ t. row ++ (codes ",\n" ++ t)) (append_assoc (row_at level (Some w)) (pieces (row_at level) (codes ",\n") (codes ",\n") ps) (codes "\n" ++ after) ∙ more) ∙ here

rows : (level : ℕ) (ps : List (Option ValueTree)) (after : List ℕ) → are_lists (places_of ps) ≡ true
    → pieces (row_at level) (codes "\n") (codes ",\n") ps ++ (codes "\n" ++ after) ≡ codes "\n" ++ (lines_of_places level (places_of ps) ++ after)
rows level [] after e = refl
rows level (None ∷ ps) after e = absurd cc
rows level (Some v ∷ ps) after e =
    ap (λ t. codes "\n" ++ t) (append_assoc (row_at level (Some v)) (pieces (row_at level) (codes ",\n") (codes ",\n") ps) (codes "\n" ++ after) ∙ some_rows level v ps after e)

-- the pieces of items are those of the places that they are seen as
seen_rows : {A : Type 0} (level : ℕ) (seen : A → Option ValueTree) (before between : List ℕ) (xs : List A) → pieces (row_of_place level seen) before between xs ≡ pieces (row_at level) before between (map seen xs)
seen_rows level seen before between [] = refl
seen_rows level seen before between (x ∷ xs) = ap (λ t. before ++ (row_at level (seen x) ++ t)) (seen_rows level seen between between xs)

table_rows : {A : Type 0} (level : ℕ) (seen : A → Option ValueTree) (xs : List A) → is_table (places_of (map seen xs)) ≡ true
    → codes "[" ++ (pieces (row_of_place (suc level) seen) (codes "\n") (codes ",\n") xs ++ (codes "\n" ++ (indent level ++ codes "]"))) ≡ text_of_value level (list_of seen xs)
table_rows level seen xs e =
    let places = places_of (map seen xs) in
    let ending = codes "\n" ++ (indent level ++ codes "]") in
    ap (λ t. codes "[" ++ (t ++ ending)) (seen_rows (suc level) seen (codes "\n") (codes ",\n") xs)
    ∙ ap (λ t. codes "[" ++ t) (rows (suc level) (map seen xs) (indent level ++ codes "]") (each places e))
    ∙ ap (λ t. codes "[\n" ++ t) (sym (append_assoc (lines_of_places (suc level) places) (indent level) (codes "]")))
    ∙ sym (rw e)
  where
    each : (places : Places) → is_table places ≡ true → are_lists places ≡ true
    each no_places h = absurd cc
    each (place v others) h = h
    each (empty_place others) h = h

-- a list at a level, printed up to a place, each place on a line of its own
abbrev pub IsTableUpTo : {A : Type 0} → ℕ → (A → Option ValueTree) → List A → List ℕ → ℕ → List ℕ → List ℕ → Type 0
IsTableUpTo level seen xs old index before now =
    IsPrintedUpTo (row_of_place (suc level) seen) (codes ",\n") (codes "\n" ++ (indent level ++ codes "]")) xs
    (codes "[" ++ (pieces (row_of_place (suc level) seen) (codes "\n") (codes ",\n") xs ++ (codes "\n" ++ (indent level ++ codes "]")))) old index before now

pub table_start : {A : Type 0} (level : ℕ) (seen : A → Option ValueTree) (xs : List A) (old now : List ℕ) → now ≡ old ++ codes "[" → IsTableUpTo level seen xs old 0 (codes "\n") now
table_start level seen xs old now e =
    pieces_start (row_of_place (suc level) seen) (codes "\n") (codes ",\n") (codes "\n" ++ (indent level ++ codes "]")) xs old (codes "[") now e

pub table_go : {A : Type 0} (level : ℕ) (seen : A → Option ValueTree) (xs : List A) (old before now : List ℕ) (index : ℕ) (x : A) (mid next : List ℕ)
    → IsTableUpTo level seen xs old index before now → slice_get xs index ≡ Some x → mid ≡ now ++ before → next ≡ mid ++ row_of_place (suc level) seen x → IsTableUpTo level seen xs old (index + 1) (codes ",\n") next
table_go level seen xs old before now index x mid next h is e f = pieces_go_at _ _ _ _ _ _ _ _ index x mid next h is e f

pub table_end : {A : Type 0} (level : ℕ) (seen : A → Option ValueTree) (xs : List A) (old before now : List ℕ) (index : ℕ) (mid : List ℕ)
    → is_table (places_of (map seen xs)) ≡ true → IsTableUpTo level seen xs old index before now → length xs ≤ index
    → mid ≡ now ++ (codes "\n" ++ (indent level ++ codes "]")) → mid ≡ old ++ text_of_value level (list_of seen xs)
table_end level seen xs old before now index mid table h all e =
    pieces_end _ _ _ _ _ _ _ _ _ _ h all e ∙ ap (λ t. old ++ t) (table_rows level seen xs table)

-- a list is on one line where it is no table
pub no_table : {A : Type 0} (level : ℕ) (seen : A → Option ValueTree) (xs : List A) → is_table (places_of (map seen xs)) ≡ false → text_of_value level (list_of seen xs) ≡ line_of (list_of seen xs)
no_table level seen xs e = rw e
