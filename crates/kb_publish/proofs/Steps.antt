-- Each step keeps the rule of the versions.
use Rattle.std.proofs.Common.{◌≡◌, ◌≢◌, ℕ, true, false, List, [], ◌∷◌, ◌++◌, set, refl, sym, ap, ◌∙◌, subst, ⊎_elim}
use mathlib.Core.List.{IsPrefix}
use mathlib.Core.Option.{some, some-ne-none}
use lib.ListN.{get_elem?}
use Rattle.atomic_table.proofs.Lists.{at_set, at_snoc, set_again}
use Rattle.crossbeam_utils.specs.Register.{Admits, TurnsAt, Turns, Forks, Merges}
use Rattle.kb_publish.specs.declared.versions.Shown.{Shown}
use Rattle.kb_publish.specs.declared.versions.View.{View}
use Rattle.kb_publish.specs.declared.versions.Entry.{Entry}
use Rattle.kb_publish.specs.Versions.{last, state_of, reader_of, publisher_of, newcomer, KnowsAll, IsOneList, Publishes, Looks, MayPublish, further, first}
use Rattle.kb_publish.proofs.Lists.{begins_self, begins_longer, last-one_more, empty_without_last, not_empty_with_one_more}
use Rattle.kb_publish.proofs.Entering.{shown_once_begun, unshown_before}

-- no other place publishes
abbrev Alone : {S : Type 0} → List (View S) → ℕ → Type 0
Alone {S} views place = (other : ℕ) (u : View S) → other ≢ place → get_elem? views other ≡ some u → u.publishes ≡ true → ⊥

module _ {V S : Type 0} (state : V → S) where
  -- The view of one place becomes w, while the list of states becomes one that begins with the one before.
  replaced : (x y : Shown V) (views : List (View S)) (place : ℕ) (w : View S) (h : IsOneList state x views) (all : List S) → last all ≡ state_of state y
      → ((xs : List S) → IsPrefix xs h.all → IsPrefix xs all)
      → ((other : ℕ) (u : View S) → other ≢ place → get_elem? views other ≡ some u → KnowsAll all u)
      → IsPrefix w.seen all → KnowsAll all w → (w.publishes ≡ true → Alone views place)
      → IsOneList state y (set views place w)
  replaced x y views place w h all shown longer others begins knows alone = record {
    all = all;
    is_shown = shown;
    begins = λ j u e. ⊎_elim
        (λ (t : (j ≡ place) × (w ≡ u)). subst (λ (z : View S). IsPrefix z.seen all) t.1 begins)
        (λ (t : (j ≢ place) × (get_elem? views j ≡ some u)). longer u.seen (h.begins j u t.1))
        (at_set views place j w u e);
    knows = λ j u e. ⊎_elim
        (λ (t : (j ≡ place) × (w ≡ u)). subst (KnowsAll all) t.1 knows)
        (λ (t : (j ≢ place) × (get_elem? views j ≡ some u)). others j u t.0 t.1)
        (at_set views place j w u e);
    single = λ j k u z e f one other. ⊎_elim
        (λ (t : (j ≡ place) × (w ≡ u)). ⊎_elim
        (λ (s : (k ≡ place) × (w ≡ z)). t.0 ∙ sym s.0)
        (λ (s : (k ≢ place) × (get_elem? views k ≡ some z)). absurd (alone (subst (λ (r : View S). r.publishes ≡ true) (sym t.1) one) k z s.0 s.1 other))
        (at_set views place k w z f))
        (λ (t : (j ≢ place) × (get_elem? views j ≡ some u)). ⊎_elim
        (λ (s : (k ≡ place) × (w ≡ z)). absurd (alone (subst (λ (r : View S). r.publishes ≡ true) (sym s.1) other) j u t.0 t.1 one))
        (λ (s : (k ≢ place) × (get_elem? views k ≡ some z)). h.single j k u z t.1 s.1 one other)
        (at_set views place k w z f))
        (at_set views place j w u e);
  }

  -- a place comes to know what a reader knows that has seen a beginning of the list
  reads : (x : Shown V) (views : List (View S)) (place : ℕ) (seen : List S) (h : IsOneList state x views) → IsPrefix seen h.all
      → IsOneList state x (set views place (reader_of seen))
  reads x views place seen h begins =
      replaced x x views place (reader_of seen) h h.all h.is_shown (λ xs p. p) (λ j u n e. h.knows j u e) begins
      (λ (publishes : false ≡ true). absurd (cc publishes)) (λ (publishes : false ≡ true). absurd (cc publishes))

  -- a place comes anew, as a reader that has seen a beginning of the list
  joined : (x : Shown V) (views : List (View S)) (seen : List S) (h : IsOneList state x views) → IsPrefix seen h.all → IsOneList state x (views ++ reader_of seen ∷ [])
  joined x views seen h begins = record {
    all = h.all;
    is_shown = h.is_shown;
    begins = λ j u e. ⊎_elim (h.begins j u) (λ (same : reader_of seen ≡ u). subst (λ (z : View S). IsPrefix z.seen h.all) same begins) (at_snoc views (reader_of seen) u j e);
    knows = λ j u e. ⊎_elim (h.knows j u) (λ (same : reader_of seen ≡ u). λ (publishes : u.publishes ≡ true). absurd (cc (same, publishes))) (at_snoc views (reader_of seen) u j e);
    single = λ j k u z e f one other. ⊎_elim
        (λ (there : get_elem? views j ≡ some u). ⊎_elim (λ (here : get_elem? views k ≡ some z). h.single j k u z there here one other)
        (λ (same : reader_of seen ≡ z). absurd (cc (same, other))) (at_snoc views (reader_of seen) z k f))
        (λ (same : reader_of seen ≡ u). absurd (cc (same, one))) (at_snoc views (reader_of seen) u j e);
  }

  -- before publishing begins nobody has seen anything
  pub begun : (x : Shown V) → x.begun ≡ false → IsOneList state x (newcomer ∷ [])
  begun x unbegun =
      let nobody : IsOneList state x [] = record {
        all = [];
        is_shown = sym (unshown_before state x unbegun);
        begins = λ j u e. absurd (some-ne-none u (sym e));
        knows = λ j u e. absurd (some-ne-none u (sym e));
        single = λ j k u z e f. absurd (some-ne-none u (sym e));
      } in
      joined x [] [] nobody (nobody.all, refl)

  pub admits : Admits (IsOneList state) newcomer
  admits x views h = joined x views [] h (h.all, refl)

  pub forks : (place : ℕ) (v : View S) → Forks (IsOneList state) place v v (reader_of v.seen)
  forks place v x views h at = subst (λ (vs : List (View S)). IsOneList state x (vs ++ reader_of v.seen ∷ [])) (sym (set_again views place v at))
      (joined x views v.seen h (h.begins place v at))

  pub merges : (place : ℕ) (v : View S) (other : ℕ) (w : View S) → Merges (IsOneList state) place v other w (reader_of w.seen) newcomer
  merges place v other w x views h at apart there =
      let before : get_elem? views other ≡ some w = ⊎_elim (λ (t : (other ≡ place) × (reader_of w.seen ≡ w)). absurd (apart t.0))
      (λ (t : (other ≢ place) × (get_elem? views other ≡ some w)). t.1) (at_set views place other (reader_of w.seen) w there) in
      let told = reads x views place w.seen h (h.begins other w before) in
      reads x (set views place (reader_of w.seen)) other [] told (told.all, refl)

  pub looks : (place : ℕ) (v : View S) → Turns (IsOneList state) place v (λ x. x) (Looks state)
  looks place v x views h at =
      let w : View S = record { publishes = v.publishes; seen = h.all } in (
        w,
        replaced x x views place w h h.all h.is_shown (λ xs p. p) (λ j u n e. h.knows j u e) (begins_self h.all)
            (λ publishes. (refl, (h.knows place v at publishes).1)) (λ publishes j u n e other. n (h.single j place u v e at other publishes)),
        (h.begins place v at, h.is_shown),
      )

  -- who may publish knows all, and nobody else publishes
  knows_all : {O : Type 0} (place : ℕ) (v : View S) (x : Shown V) (entries : List (Entry O)) (views : List (View S)) (h : IsOneList state x views)
      → get_elem? views place ≡ some v → MayPublish v x entries → (v.seen ≡ h.all) × Alone views place
  knows_all place v x entries views h at (further publishes shown) =
      ((h.knows place v at publishes).0, (λ j u n e other. n (h.single j place u v e at other publishes)))
  knows_all place v x entries views h at (first nothing unbegun begins) =
      let none : h.all ≡ [] = empty_without_last h.all (h.is_shown ∙ unshown_before state x unbegun) in
      (nothing ∙ sym none, (λ j u n e other. (h.knows j u e other).1 none))

  pub publishes : {O : Type 0} (place : ℕ) (v : View S) (x y : Shown V) (entries : List (Entry O)) → MayPublish v x entries → y.begun ≡ true
      → TurnsAt (IsOneList state) place v x y (Publishes state)
  publishes place v x y entries may shown views h at =
      let knows = knows_all place v x entries views h at may in
      let next : S = state y.version in
      let all : List S = h.all ++ next ∷ [] in
      let w : View S = publisher_of (v.seen ++ next ∷ []) in
      let same : v.seen ++ next ∷ [] ≡ all = ap (λ (s : List S). s ++ next ∷ []) knows.0 in (
        w,
        replaced x y views place w h all (last-one_more h.all next ∙ sym (shown_once_begun state y shown)) (λ xs p. begins_longer xs h.all (next ∷ []) p)
            (λ j u n e other. absurd (knows.1 j u n e other)) (subst (λ (s : List S). IsPrefix s all) (sym same) (begins_self all))
            (λ _. (same, not_empty_with_one_more h.all next)) (λ _. knows.1),
        refl,
      )
