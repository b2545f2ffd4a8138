-- The differences of two words are added place by place.
use Rattle.std.proofs.Common.{◌≡◌, ◌↔◌, ◌⊎◌, All, inl, inr, ℕ, zero, suc, ◌+◌, ◌<◌, ◌≤◌, List, [], ◌∷◌, ◌++◌, length, take, drop, get_or, slice_get, Some, sym, subst, refl, ap, ◌∙◌, arith}
use Rattle.std.proofs.Common.{Result, Ok, Err, IfOk}
use Rattle.std.specs.List.{Contains}
use Rattle.std.proofs.lemmas.List.Elements.{All-contains, Contains-push}
use Rattle.std.proofs.lemmas.List.{length-take, take_all, take_more, take-append-le}
use Rattle.std.proofs.lemmas.Option.{get_or_from_slice_get, none-some, same_Some, slice_get-get_or, slice_get_within}
use Rattle.kb_word.specs.Words.{Pair, OneOf}
use Rattle.kb_word.specs.Relations.{IsOver}
use Rattle.kb_word.specs.Rewriting.{IsIrreducible}
use Rattle.kb_diff.specs.declared.grow.Grow.{Grow}
use Rattle.kb_diff.specs.declared.grow.Grow.TheVariants.{Grew, Same, Full}
use Rattle.kb_diff.specs.Groups.{Group}
use Rattle.kb_diff.specs.Differences.{IsDifference, AreFirstDifferences, HaveDifferences, last_place}
use Rattle.kb_diff.specs.Keeping.{Grows, no_room, NamesMissing, Adds, AddsEach, AddsPairs, KeepsOne, one_known, one_added, one_too_many, IsFull, both_answers, each, stopped, none_left, and_next}
use Rattle.kb_diff.proofs.Growing.{grows_none, grows_more, grows_keeps, Keeps-contains, Keeps-seen, all_known_from_same, same_from_all_known}
use Rattle.kb_diff.proofs.Places.{no_differences, differences_more, differences_before, last_item, at_place, have_from_all, all_from_have}

abbrev Words : Type 0
Words = List (List ℕ)

-- the differences at so many places are kept, and there was room for all
pub record SoFar (group : Group) (most : ℕ) (u v : List ℕ) (count : ℕ) (old new : Words) (answer : Grow) : Type 0 where
  pub seen : Words
  pub are_differences : AreFirstDifferences group u v count seen
  pub grows : Grows most seen old new answer
  pub room : ¬ IsFull answer

-- what another place gives, where there was room for all before
pub record Further (group : Group) (most : ℕ) (u v : List ℕ) (count : ℕ) (old new : Words) (answer : Grow) : Type 0 where
  pub seen : Words
  pub are_differences : AreFirstDifferences group u v count seen
  pub grows : Grows most seen old new answer

pub so_far_none : (group : Group) (most : ℕ) (u v : List ℕ) (old : Words) → SoFar group most u v 0 old old Same
so_far_none group most u v old = record {
  seen = [];
  are_differences = no_differences group u v;
  grows = grows_none most old;
  room = λ full. full;
}

pub further : (group : Group) (most : ℕ) (u v : List ℕ) (count next : ℕ) (old between new : Words) (answer one : Grow) (d : List ℕ) → next ≡ count + 1
    → SoFar group most u v count old between answer → IsDifference group u v next d → KeepsOne most d next between new one
    → Further group most u v next old new (both_answers answer one)
further group most u v count next old between new answer one d is so_far difference keeps =
    let number = so_far.are_differences.one_each in record {
      seen = so_far.seen ++ d ∷ [];
      are_differences = differences_more group u v count next so_far.seen d is so_far.are_differences difference;
      grows = grows_more most so_far.seen old between d new answer one next (omega arith) so_far.grows so_far.room keeps;
    }

-- the same, where the group and the limit go by other names
pub place_more : (group own : Group) (most limit : ℕ) (u v : List ℕ) (count : ℕ) (old between new : Words) (answer one both : Grow) (d : List ℕ)
    → own ≡ group → limit ≡ most → both ≡ both_answers answer one → SoFar group most u v count old between answer
    → IsDifference own u v (count + 1) d → KeepsOne limit d (count + 1) between new one → Further group most u v (count + 1) old new both
place_more group own most limit u v count old between new answer one both d same same_most is so_far difference keeps =
    let D : Group → Type 0 = λ (it : Group). IsDifference it u v (count + 1) d in
    let K : ℕ → Type 0 = λ it. KeepsOne it d (count + 1) between new one in
    let F : Grow → Type 0 = λ it. Further group most u v (count + 1) old new it in
    subst F (sym is)
    (further group most u v count (count + 1) old between new answer one d refl so_far (subst D same difference) (subst K same_most keeps))

pub so_far_more : (group : Group) (most : ℕ) (u v : List ℕ) (count : ℕ) (old new : Words) (answer : Grow) → ¬ IsFull answer
    → Further group most u v count old new answer → SoFar group most u v count old new answer
so_far_more group most u v count old new answer room more =
    record { seen = more.seen; are_differences = more.are_differences; grows = more.grows; room = room }

pub adds_full : (group : Group) (most : ℕ) (u v : List ℕ) (count : ℕ) (old new : Words) (answer : Grow) → count ≤ last_place u v → IsFull answer
    → Further group most u v count old new answer → Adds group most u v old new answer
adds_full group most u v count old new answer within full more = record {
  count = count;
  seen = more.seen;
  are_differences = more.are_differences;
  grows = more.grows;
  within = within;
  all = λ room. absurd (room full);
}

-- the words that were kept first stay in front
pub front_more : (most : ℕ) (word : List ℕ) (place : ℕ) (old between new : Words) (one : Grow) → take (length old) between ≡ old
    → KeepsOne most word place between new one → take (length old) new ≡ old
front_more most word place old between new Same front (one_known has same) = ap (take (length old)) same ∙ front
front_more most word place old between new Grew front (one_added fresh less longer) =
    let count = ap length front in
    let cut = length-take (length old) between in
    ap (take (length old)) longer ∙ (take-append-le (length old) between (word ∷ []) (omega arith) ∙ front)
front_more most word place old between new (Full last number) front (one_too_many fresh count same) = ap (take (length old)) same ∙ front

-- `Same` is the answer exactly where the difference at each place is kept already
pub same_exactly : (group : Group) (most : ℕ) (u v : List ℕ) (old new : Words) (answer : Grow) → Contains old [] → IsIrreducible (OneOf group.rules) []
    → Adds group most u v old new answer → (answer ≡ Same) ↔ HaveDifferences group old u v
same_exactly group most u v old new answer has_empty empty adds = (
  λ same.
      let P : Grow → Type 0 = λ a. Grows most adds.seen old new a in
      let Q : Grow → Type 0 = λ a. ¬ IsFull a in
      let room : ¬ IsFull answer = subst Q (sym same) (λ full. full) in
      have_from_all group u v adds.count adds.seen adds.are_differences (adds.all room) old has_empty empty
      (all_known_from_same most adds.seen old new (subst P same adds.grows)),
  λ have. same_from_all_known most adds.seen old new answer adds.grows
      (all_from_have group u v adds.count adds.seen adds.are_differences old have),
)

-- ---- `Full`

cases_full : (answer : Grow) → IsFull answer ⊎ (¬ IsFull answer)
cases_full Same = inr (λ full. full)
cases_full Grew = inr (λ full. full)
cases_full (Full word place) = inl tt

earlier_kept : (group : Group) (u v : List ℕ) (before new : Words) → AreFirstDifferences group u v (length before) before → All (Contains new) before
    → (earlier : ℕ) (d : List ℕ) → 0 < earlier → earlier < suc (length before) → IsDifference group u v earlier d → Contains new d
earlier_kept group u v before new are all zero d positive less is = absurd (omega arith)
earlier_kept group u v before new are all (suc index) d positive less is =
    All-contains (Contains new) before d all (at_place group u v (length before) before are index d (omega arith) is)

full_says : (group : Group) (most : ℕ) (u v : List ℕ) (count : ℕ) (seen old new : Words) (answer : Grow) → AreFirstDifferences group u v count seen
    → Grows most seen old new answer → IsFull answer → (length new ≡ most) × (¬ HaveDifferences group new u v)
full_says group most u v count seen old new Same are grows full = absurd full
full_says group most u v count seen old new Grew are grows full = absurd full
full_says group most u v count seen old new (Full last number) are (no_room before word is keeps all fresh) full =
    let P : Words → Type 0 = λ words. Contains words word in (
      all,
      λ have. fresh (All-contains (Contains new) seen word (all_from_have group u v count seen are new have)
          (subst P (sym is) (Contains-push before word))),
    )

-- the answer is `Full` exactly where as many are kept as there may be, and the difference at some place isn't
pub full_exactly : (group : Group) (most : ℕ) (u v : List ℕ) (old new : Words) (answer : Grow) → Contains old [] → IsIrreducible (OneOf group.rules) []
    → Adds group most u v old new answer → IsFull answer ↔ ((length new ≡ most) × (¬ HaveDifferences group new u v))
full_exactly group most u v old new answer has_empty empty adds = (
  λ full. full_says group most u v adds.count adds.seen old new answer adds.are_differences adds.grows full,
  λ says. elim (cases_full answer) [
    | inl full ↦ full
    | inr room ↦
        let keeps = grows_keeps most adds.seen old new answer adds.grows room in
        absurd (says.1 (have_from_all group u v adds.count adds.seen adds.are_differences (adds.all room) new (Keeps-contains [] keeps has_empty) empty (Keeps-seen keeps)))
  ],
)

names_missing : (group : Group) (most : ℕ) (u v : List ℕ) (count : ℕ) (seen old new : Words) (answer : Grow) → AreFirstDifferences group u v count seen
    → Grows most seen old new answer → NamesMissing group new u v answer
names_missing group most u v count seen old new Same are grows = tt
names_missing group most u v count seen old new Grew are grows = tt
names_missing group most u v count seen old new (Full last number) are (no_room before word is keeps all fresh) =
    let P : Words → Type 0 = λ words. AreFirstDifferences group u v count words in
    let whole = subst P is are in
    let front = differences_before group u v count before word whole in record {
      is_difference = whole.each (length before) word (last_item before word);
      missing = fresh;
      first = earlier_kept group u v before new front (Keeps-seen keeps);
    }

-- `Full` names the first difference that isn't kept
pub full_names : (group : Group) (most : ℕ) (u v : List ℕ) (old new : Words) (answer : Grow) → Adds group most u v old new answer
    → NamesMissing group new u v answer
full_names group most u v old new answer adds =
    names_missing group most u v adds.count adds.seen old new answer adds.are_differences adds.grows

-- ---- the pairs of a list

pub each_more : {group : Group} {most : ℕ} {front : List Pair} {old between new : Words} (pair : Pair) (answer : Grow) → AddsEach group most front old between
    → Adds group most pair.0 pair.1 between new answer → ¬ IsFull answer → AddsEach group most (front ++ pair ∷ []) old new
each_more pair answer none_left adds room = and_next answer adds room none_left
each_more pair answer (and_next one first fits rest) adds room = and_next one first fits (each_more pair answer rest adds room)

parts_at : {X : Type 0} (xs : List X) (index : ℕ) (x : X) → slice_get xs index ≡ Some x → xs ≡ take index xs ++ x ∷ drop (suc index) xs
parts_at [] index x is = absurd (none-some x is)
parts_at (y ∷ xs) zero x is = ap (λ z. z ∷ xs) (same_Some y x is)
parts_at (y ∷ xs) (suc index) x is = ap (λ l. y ∷ l) (parts_at xs index x is)

pub stopped_at : (group : Group) (most : ℕ) (rules : List Pair) (old between new : Words) (answer : Grow) (index : ℕ) (pair : Pair)
    → slice_get rules index ≡ Some pair → AddsEach group most (take index rules) old between → Adds group most pair.0 pair.1 between new answer
    → IsFull answer → AddsPairs group most rules old new answer
stopped_at group most rules old between new Grew index pair at before adds full = absurd full
stopped_at group most rules old between new Same index pair at before adds full = absurd full
stopped_at group most rules old between new (Full word place) index pair at before adds full =
    stopped (take index rules) pair (drop (suc index) rules) between word place (parts_at rules index pair at) before adds

pub if_ok_more : {X E : Type 0} (P Q : X → Type 0) (r : Result X E) → ((x : X) → P x → Q x) → IfOk r P → IfOk r Q
if_ok_more P Q (Ok x) more holds = more x holds
if_ok_more P Q (Err e) more holds = tt

-- the pair at an index of a list that is read
pub listed_at : (rules listed : List Pair) (index : ℕ) (pair : Pair) → listed ≡ rules → index < length listed → pair ≡ get_or listed index pair
    → slice_get rules index ≡ Some pair
listed_at rules listed index pair same within is =
    ap (λ (l : List Pair). slice_get l index) (sym same) ∙ (slice_get-get_or listed index pair within ∙ ap (λ (p : Pair). Some p) (sym is))

pub over_by : (n m : ℕ) (w v : List ℕ) → m ≡ n → w ≡ v → IsOver n v → IsOver m w
over_by n m w v same word over =
    let N : ℕ → Type 0 = λ k. IsOver k v in
    let W : List ℕ → Type 0 = λ x. IsOver m x in
    subst W (sym word) (subst N (sym same) over)

pub adds_by : (group own : Group) (most limit : ℕ) (u v left right : List ℕ) (old new : Words) (answer : Grow) → own ≡ group → limit ≡ most
    → left ≡ u → right ≡ v → Adds own limit left right old new answer → Adds group most u v old new answer
adds_by group own most limit u v left right old new answer same same_most first second adds =
    let G : Group → Type 0 = λ (it : Group). Adds it limit left right old new answer in
    let M : ℕ → Type 0 = λ it. Adds group it left right old new answer in
    let U : List ℕ → Type 0 = λ w. Adds group most w right old new answer in
    let V : List ℕ → Type 0 = λ w. Adds group most u w old new answer in
    subst V second (subst U first (subst M same_most (subst G same adds)))

pub each_at : (group : Group) (most : ℕ) (rules : List Pair) (old between new : Words) (answer : Grow) (index : ℕ) (pair : Pair)
    → slice_get rules index ≡ Some pair → AddsEach group most (take index rules) old between → Adds group most pair.0 pair.1 between new answer
    → ¬ IsFull answer → AddsEach group most (take (index + 1) rules) old new
each_at group most rules old between new answer index pair at before adds room =
    let next : take (index + 1) rules ≡ take index rules ++ pair ∷ [] =
    take_more rules index pair (slice_get_within rules index pair at)
    ∙ ap (λ (p : Pair). take index rules ++ p ∷ []) (get_or_from_slice_get rules index pair pair at) in
    let P : List Pair → Type 0 = λ l. AddsEach group most l old new in
    subst P (sym next) (each_more pair answer before adds room)

pub adds_each : (group : Group) (most : ℕ) (rules listed : List Pair) (old new : Words) (index : ℕ) → listed ≡ rules → length listed ≤ index
    → AddsEach group most (take index rules) old new → AddsPairs group most rules old new Grew
adds_each group most rules listed old new index same past before =
    let P : List Pair → Type 0 = λ l. AddsEach group most l old new in
    each (subst P (take_all index rules (omega (arith, past, ap length same))) before)
