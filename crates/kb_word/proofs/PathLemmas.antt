-- Lemmas on paths, on replacements in words, and on the congruence that pairs generate.
use Rattle.std.proofs.Common.{◌≡◌, List, [], ◌∷◌, ◌++◌, ℕ, refl, sym, ap, ◌∙◌, subst, inl, inr, append_assoc}
use Rattle.std.proofs.lemmas.List.{append-nil}
use Rattle.kb_word.specs.Words.{Pair, OneOf}
use Rattle.kb_word.specs.Path.{Linked, Path}
use Rattle.kb_word.specs.Congruence.{Replaces, Touches, Congruent, SameCongruence, IsLeast}
use Rattle.kb_word.specs.Rewriting.{ReducesTo}

-- the path of no steps
pub path_none : {X : Type 0} {related : X → X → Type 0} (x : X) → Path related x x
path_none x = record { steps = []; linked = refl }

pub path_equal : {X : Type 0} {related : X → X → Type 0} (x y : X) → x ≡ y → Path related x y
path_equal x y e = record { steps = []; linked = e }

-- one step
pub path_one : {X : Type 0} {related : X → X → Type 0} {x y : X} → related x y → Path related x y
path_one {y = y} r = record { steps = y ∷ []; linked = (r, refl) }

Linked-append : {X : Type 0} (related : X → X → Type 0) (x y z : X) (steps more : List X)
    → Linked related x steps y → Linked related y more z → Linked related x (steps ++ more) z
Linked-append related x y z [] more e rest = let P = λ (w : _). Linked related w more z in subst P (sym e) rest
Linked-append related x y z (next ∷ steps) more linked rest =
    (linked.0, Linked-append related next y z steps more linked.1 rest)

-- paths are transitive
pub path_append : {X : Type 0} {related : X → X → Type 0} {x y z : X} → Path related x y → Path related y z → Path related x z
path_append {related = related} {x = x} {y = y} {z = z} p q = record {
  steps = p.steps ++ q.steps;
  linked = Linked-append related x y z p.steps q.steps p.linked q.linked;
}

-- one step, and then a path
pub path_step : {X : Type 0} {related : X → X → Type 0} {x y z : X} → related x y → Path related y z → Path related x z
path_step {y = y} r p = record { steps = y ∷ p.steps; linked = (r, p.linked) }

-- a path, and then one step
pub path_then : {X : Type 0} {related : X → X → Type 0} {x y z : X} → Path related x y → related y z → Path related x z
path_then p r = path_append p (path_one r)

Linked-mapped : {X Y : Type 0} (related : X → X → Type 0) (others : Y → Y → Type 0) (f : X → Y)
    → ((x y : X) → related x y → others (f x) (f y))
    → (x y : X) (steps : List X) → Linked related x steps y → Path others (f x) (f y)
Linked-mapped related others f implies x y [] e = path_equal (f x) (f y) (ap f e)
Linked-mapped related others f implies x y (next ∷ steps) linked =
    path_step (implies x next linked.0) (Linked-mapped related others f implies next y steps linked.1)

-- a path of one relation is, through a function, a path of another that it implies
pub path_mapped : {X Y : Type 0} {related : X → X → Type 0} {others : Y → Y → Type 0} (f : X → Y)
    → ((x y : X) → related x y → others (f x) (f y)) → {x y : X} → Path related x y → Path others (f x) (f y)
path_mapped {related = related} {others = others} f implies {x = x} {y = y} p =
    Linked-mapped related others f implies x y p.steps p.linked

-- a path of one relation is a path of another that it implies
pub path_implied : {X : Type 0} {related others : X → X → Type 0} → ((x y : X) → related x y → others x y)
    → {x y : X} → Path related x y → Path others x y
path_implied {related = related} {others = others} implies {x = x} {y = y} p =
    Linked-mapped related others (λ z. z) implies x y p.steps p.linked

Linked-joined : {X Y : Type 0} (related : X → X → Type 0) (others : Y → Y → Type 0) (f : X → Y)
    → ((x y : X) → related x y → Path others (f x) (f y))
    → (x y : X) (steps : List X) → Linked related x steps y → Path others (f x) (f y)
Linked-joined related others f implies x y [] e = path_equal (f x) (f y) (ap f e)
Linked-joined related others f implies x y (next ∷ steps) linked =
    path_append (implies x next linked.0) (Linked-joined related others f implies next y steps linked.1)

-- a path whose every step is, through a function, a path of another relation
pub path_joined : {X Y : Type 0} {related : X → X → Type 0} {others : Y → Y → Type 0} (f : X → Y)
    → ((x y : X) → related x y → Path others (f x) (f y)) → {x y : X} → Path related x y → Path others (f x) (f y)
path_joined {related = related} {others = others} f implies {x = x} {y = y} p =
    Linked-joined related others f implies x y p.steps p.linked

Linked-reversed : {X : Type 0} (related others : X → X → Type 0) → ((x y : X) → related x y → others y x)
    → (x y : X) (steps : List X) → Linked related x steps y → Path others y x
Linked-reversed related others back x y [] e = path_equal y x (sym e)
Linked-reversed related others back x y (next ∷ steps) linked =
    path_then (Linked-reversed related others back next y steps linked.1) (back x next linked.0)

-- a path walked backwards, by a relation that has each step backwards
pub path_reversed : {X : Type 0} {related others : X → X → Type 0} → ((x y : X) → related x y → others y x)
    → {x y : X} → Path related x y → Path others y x
path_reversed {related = related} {others = others} back {x = x} {y = y} p =
    Linked-reversed related others back x y p.steps p.linked

Linked-keeps : {X : Type 0} (related : X → X → Type 0) (P : X → Type 0) → ((x y : X) → related x y → P x → P y)
    → (x y : X) (steps : List X) → Linked related x steps y → P x → P y
Linked-keeps related P keeps x y [] e h = subst P e h
Linked-keeps related P keeps x y (next ∷ steps) linked h =
    Linked-keeps related P keeps next y steps linked.1 (keeps x next linked.0 h)

-- what each step keeps is kept along a path
pub path_keeps : {X : Type 0} {related : X → X → Type 0} (P : X → Type 0) → ((x y : X) → related x y → P x → P y)
    → {x y : X} → Path related x y → P x → P y
path_keeps {related = related} P keeps {x = x} {y = y} p h = Linked-keeps related P keeps x y p.steps p.linked h

-- a list between other lists, put between further ones
pub append-between : (before left middle right after : List ℕ)
    → before ++ (left ++ middle ++ right) ++ after ≡ (before ++ left) ++ middle ++ (right ++ after)
append-between before left middle right after = simp append_assoc

-- a replacement is one in a longer word too
pub Replaces-between : {allowed : Pair → Type 0} (before after : List ℕ) {u v : List ℕ}
    → Replaces allowed u v → Replaces allowed (before ++ u ++ after) (before ++ v ++ after)
Replaces-between before after r = record {
  before = before ++ r.before;
  pair = r.pair;
  after = r.after ++ after;
  is_allowed = r.is_allowed;
  from = ap (λ w. before ++ w ++ after) r.from ∙ append-between before r.before r.pair.0 r.after after;
  to = ap (λ w. before ++ w ++ after) r.to ∙ append-between before r.before r.pair.1 r.after after;
}

-- an allowed pair replaces its left side, as a whole word
pub Replaces-whole : {allowed : Pair → Type 0} (pair : Pair) → allowed pair → Replaces allowed pair.0 pair.1
Replaces-whole pair h = record {
  before = [];
  pair = pair;
  after = [];
  is_allowed = h;
  from = sym (append-nil pair.0);
  to = sym (append-nil pair.1);
}

-- what one set of pairs allows, a larger one allows too
pub Replaces-implied : {allowed more : Pair → Type 0} → ((pair : Pair) → allowed pair → more pair)
    → {u v : List ℕ} → Replaces allowed u v → Replaces more u v
Replaces-implied implies r = record {
  before = r.before;
  pair = r.pair;
  after = r.after;
  is_allowed = implies r.pair r.is_allowed;
  from = r.from;
  to = r.to;
}

Touches-back : {allowed : Pair → Type 0} (u v : List ℕ) → Touches allowed u v → Touches allowed v u
Touches-back u v (inl r) = inr r
Touches-back u v (inr r) = inl r

Touches-between : {allowed : Pair → Type 0} (before after u v : List ℕ)
    → Touches allowed u v → Touches allowed (before ++ u ++ after) (before ++ v ++ after)
Touches-between before after u v (inl r) = inl (Replaces-between before after r)
Touches-between before after u v (inr r) = inr (Replaces-between before after r)

pub congruent_reflexive : {allowed : Pair → Type 0} (w : List ℕ) → Congruent allowed w w
congruent_reflexive w = path_none w

pub congruent_symmetric : {allowed : Pair → Type 0} {u v : List ℕ} → Congruent allowed u v → Congruent allowed v u
congruent_symmetric p = path_reversed Touches-back p

pub congruent_transitive : {allowed : Pair → Type 0} {u v w : List ℕ}
    → Congruent allowed u v → Congruent allowed v w → Congruent allowed u w
congruent_transitive p q = path_append p q

-- congruent words stay congruent between other words
pub congruent_between : {allowed : Pair → Type 0} (before after : List ℕ) {u v : List ℕ}
    → Congruent allowed u v → Congruent allowed (before ++ u ++ after) (before ++ v ++ after)
congruent_between before after p = path_mapped (λ w. before ++ w ++ after) (Touches-between before after) p

pub congruent_by_replacement : {allowed : Pair → Type 0} {u v : List ℕ} → Replaces allowed u v → Congruent allowed u v
congruent_by_replacement r = path_one (inl r)

-- the sides of an allowed pair are congruent
pub congruent_sides : {allowed : Pair → Type 0} (pair : Pair) → allowed pair → Congruent allowed pair.0 pair.1
congruent_sides pair h = congruent_by_replacement (Replaces-whole pair h)

touches_implied : (allowed more : Pair → Type 0) → ((pair : Pair) → allowed pair → more pair)
    → (u v : List ℕ) → Touches allowed u v → Touches more u v
touches_implied allowed more implies u v (inl r) = inl (Replaces-implied implies r)
touches_implied allowed more implies u v (inr r) = inr (Replaces-implied implies r)

-- a larger set of pairs makes more words congruent
pub congruent_implied : {allowed more : Pair → Type 0} → ((pair : Pair) → allowed pair → more pair)
    → {u v : List ℕ} → Congruent allowed u v → Congruent more u v
congruent_implied {allowed = allowed} {more = more} implies p = path_implied (touches_implied allowed more implies) p

-- replaced by a congruent right side
replaced_covered : (allowed others : Pair → Type 0) → ((pair : Pair) → allowed pair → Congruent others pair.0 pair.1)
    → (u v : List ℕ) → Replaces allowed u v → Congruent others u v
replaced_covered allowed others covered u v r =
    let sides = congruent_between r.before r.after (covered r.pair r.is_allowed) in
    congruent_transitive (path_equal u (r.before ++ r.pair.0 ++ r.after) r.from)
    (congruent_transitive sides (path_equal (r.before ++ r.pair.1 ++ r.after) v (sym r.to)))

touches_covered : (allowed others : Pair → Type 0) → ((pair : Pair) → allowed pair → Congruent others pair.0 pair.1)
    → (u v : List ℕ) → Touches allowed u v → Congruent others u v
touches_covered allowed others covered u v (inl r) = replaced_covered allowed others covered u v r
touches_covered allowed others covered u v (inr r) = congruent_symmetric (replaced_covered allowed others covered v u r)

-- pairs that are congruent by others make no more words congruent than those
pub congruent_covered : {allowed others : Pair → Type 0} → ((pair : Pair) → allowed pair → Congruent others pair.0 pair.1)
    → {u v : List ℕ} → Congruent allowed u v → Congruent others u v
congruent_covered {allowed = allowed} {others = others} covered p =
    path_joined (λ w. w) (touches_covered allowed others covered) p

pub SameCongruence-itself : (pairs : List Pair) → SameCongruence pairs pairs
SameCongruence-itself pairs = record { covered = λ pair h. congruent_sides pair h; covers = λ pair h. congruent_sides pair h }

pub SameCongruence-back : {pairs others : List Pair} → SameCongruence pairs others → SameCongruence others pairs
SameCongruence-back same = record { covered = same.covers; covers = same.covered }

pub SameCongruence-then : {pairs others more : List Pair} → SameCongruence pairs others → SameCongruence others more → SameCongruence pairs more
SameCongruence-then same next = record {
  covered = λ pair h. congruent_covered next.covered (same.covered pair h);
  covers = λ pair h. congruent_covered same.covers (next.covers pair h);
}

-- the same congruence relates the same words
pub congruent_same : {pairs others : List Pair} → SameCongruence pairs others → {u v : List ℕ}
    → Congruent (OneOf pairs) u v → Congruent (OneOf others) u v
congruent_same same p = congruent_covered same.covered p

-- least words are the same under the same congruence
pub IsLeast-same : {below : List ℕ → List ℕ → Type 0} {pairs others : List Pair} → SameCongruence pairs others → (w m : List ℕ)
    → IsLeast below pairs w m → IsLeast below others w m
IsLeast-same same w m least = record {
  congruent = congruent_same same least.congruent;
  least = λ v p. least.least v (congruent_same (SameCongruence-back same) p);
}

-- reduced words are congruent
pub congruent_by_reduction : {allowed : Pair → Type 0} {u v : List ℕ} → ReducesTo allowed u v → Congruent allowed u v
congruent_by_reduction p = path_implied (λ x y r. inl r) p

-- a reduction is one in a longer word too
pub reduces_between : {allowed : Pair → Type 0} (before after : List ℕ) {u v : List ℕ}
    → ReducesTo allowed u v → ReducesTo allowed (before ++ u ++ after) (before ++ v ++ after)
reduces_between before after p = path_mapped (λ w. before ++ w ++ after) (λ x y r. Replaces-between before after r) p
