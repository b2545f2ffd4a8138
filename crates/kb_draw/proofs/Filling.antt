-- How slots are filled, by one thing after another.
use Rattle.std.proofs.Common.{◌≡◌, ◌≢◌, ℕ, ◌<◌, ◌⊎◌, List, [], ◌∷◌, ◌++◌, length, get_or, set, Option, Some, None, refl, sym, ◌∙◌, ap, subst, inl, inr, ⊎_elim, arith}
use Rattle.std.proofs.lemmas.Bool.{cases_eq}
use Rattle.std.proofs.lemmas.List.{length-set, get_or-set_same, get_or-set_other}
use Rattle.std.proofs.lemmas.List.Elements.{All-pop, Contains-append_left, Contains-append_right, Contains-push_cases}
use Rattle.std.specs.List.{All, Contains}
use Rattle.kb_draw.specs.Shares.{AreWithin, IsAmong, IsMadeBy}
use Rattle.kb_draw.specs.Slots.{IsAt, IsFilled}
use Rattle.kb_draw.specs.declared.making_share.Placed.{Placed}
use Rattle.kb_draw.specs.declared.making_share.MakingShare.{MakingShare}

module _ {Made : Type 0} where
  some_injective : {x y : Made} → Some x ≡ Some y → x ≡ y
  some_injective e = cc

  -- this alone, at its place
  abbrev IsThis : Placed Made → ℕ → Made → Type 0
  IsThis one place made = one ≡ record { place = place; made = made }

  this : (one : Placed Made) (place : ℕ) (made : Made) → place ≡ one.place → made ≡ one.made → IsThis one place made
  this one place made here is = rw (here, is) refl

  -- one slot is filled
  one_filled : (slots : List (Option Made)) (one : Placed Made) → one.place < length slots
      → IsFilled (IsThis one) slots (set slots one.place (Some one.made))
  one_filled slots one within =
      let after = set slots one.place (Some one.made) in
      let here : get_or after one.place None ≡ Some one.made = get_or-set_same slots one.place (Some one.made) None within in
      record {
        count = length-set slots one.place (Some one.made);
        from = λ place made at. ⊎_elim
            (λ (same : place ≡ one.place).
            let there = subst (λ (p : ℕ). get_or after p None ≡ Some made) same at in
            inr (this one place made same (some_injective (sym there ∙ here))))
            (λ (apart : place ≢ one.place). inl (sym (get_or-set_other slots one.place place (Some one.made) None apart) ∙ at))
            (cases_eq place one.place);
        kept = λ place has. ⊎_elim
            (λ (same : place ≡ one.place). (one.made, subst (λ (p : ℕ). get_or after p None ≡ Some one.made) (sym same) here))
            (λ (apart : place ≢ one.place). (has.0, get_or-set_other slots one.place place (Some one.made) None apart ∙ has.1))
            (cases_eq place one.place);
        filled = λ place made is.
            let same : one.place ≡ place = ap (λ (p : Placed Made). p.place) is in
            (one.made, subst (λ (p : ℕ). get_or after p None ≡ Some one.made) same here);
      }

  -- the slots are filled with the ones first and with the others then
  filled_then : (First Then Both : ℕ → Made → Type 0) (before between after : List (Option Made))
      → IsFilled First before between → IsFilled Then between after
      → ((place : ℕ) (made : Made) → First place made → Both place made)
      → ((place : ℕ) (made : Made) → Then place made → Both place made)
      → ((place : ℕ) (made : Made) → Both place made → Then place made ⊎ First place made)
      → IsFilled Both before after
  filled_then First Then Both before between after earlier later one other either = record {
    count = later.count ∙ earlier.count;
    from = λ place made at. ⊎_elim
        (λ (was : IsAt between place made). ⊎_elim
        (λ (early : IsAt before place made). inl early)
        (λ (first : First place made). inr (one place made first))
        (earlier.from place made was))
        (λ (late : Then place made). inr (other place made late))
        (later.from place made at);
    kept = λ place has. later.kept place (earlier.kept place has);
    filled = λ place made both. ⊎_elim
        (λ (late : Then place made). later.filled place made late)
        (λ (first : First place made). later.kept place (earlier.filled place made first))
        (either place made both);
  }

  -- ---- what was made, one after another

  one_more : (rest all : List (Placed Made)) (one : Placed Made) (before between after : List (Option Made)) → all ≡ rest ++ one ∷ []
      → IsFilled (IsThis one) before between → IsFilled (IsAmong rest) between after → IsFilled (IsAmong all) before after
  one_more rest all one before between after is first later =
      subst (λ (list : List (Placed Made)). IsFilled (IsAmong list) before after) (sym is)
      (filled_then (IsThis one) (IsAmong rest) (IsAmong (rest ++ one ∷ [])) before between after first later
      (λ place made same. Contains-append_right rest (one ∷ []) _ (0, omega arith, same))
      (λ place made was. Contains-append_left rest (one ∷ []) _ was)
      (λ place made both. Contains-push_cases rest one _ both))

  -- a loop that goes on from one to the next
  pub goes_on : (rest all start : List (Placed Made)) (one : Placed Made) (initial before between : List (Option Made))
      → all ≡ rest ++ one ∷ [] → between ≡ set before one.place (Some one.made) → length before ≡ length initial
      → AreWithin (length initial) all
      → ((after : List (Option Made)) → IsFilled (IsAmong all) before after → IsFilled (IsAmong start) initial after)
      → (length between ≡ length initial) × AreWithin (length initial) rest
      × ((after : List (Option Made)) → IsFilled (IsAmong rest) between after → IsFilled (IsAmong start) initial after)
  goes_on rest all start one initial before between is put count within goes =
      let split = All-pop (λ (it : Placed Made). it.place < length initial) all rest (Some one) is within in
      let low = split.1 in
      let first = one_filled before one (omega (arith, low, count)) in (
        ap length put ∙ first.count ∙ count,
        split.0,
        λ after later.
            goes after
            (one_more rest all one before between after is
            (subst (λ (slots : List (Option Made)). IsFilled (IsThis one) before slots) (sym put) first) later),
      )

  -- ---- shares, one after another

  share_more : (rest all : List (MakingShare Made)) (share : MakingShare Made) (before between after : List (Option Made)) → all ≡ rest ++ share ∷ []
      → IsFilled (IsAmong share.made.items) before between → IsFilled (IsMadeBy rest) between after → IsFilled (IsMadeBy all) before after
  share_more rest all share before between after is first later =
      subst (λ (list : List (MakingShare Made)). IsFilled (IsMadeBy list) before after) (sym is)
      (filled_then (IsAmong share.made.items) (IsMadeBy rest) (IsMadeBy (rest ++ share ∷ [])) before between after first later
      (λ place made among. record {
        share = share;
        worker = Contains-append_right rest (share ∷ []) share (0, omega arith, refl);
        among = among;
      })
      (λ place made was. record {
        share = was.share;
        worker = Contains-append_left rest (share ∷ []) was.share was.worker;
        among = was.among;
      })
      (λ place made both. ⊎_elim
      (λ (among : Contains rest both.share). inl (record { share = both.share; worker = among; among = both.among }))
      (λ (same : share ≡ both.share).
      inr (subst (λ (own : MakingShare Made). IsAmong own.made.items place made) (sym same) both.among))
      (Contains-push_cases rest share both.share both.worker)))

  -- a loop that goes on from one share to the next
  pub shares_go_on : (rest all start : List (MakingShare Made)) (share : MakingShare Made) (initial before between : List (Option Made))
      → all ≡ rest ++ share ∷ [] → IsFilled (IsAmong share.made.items) before between → length before ≡ length initial
      → All (λ (it : MakingShare Made). AreWithin (length initial) it.made.items) all
      → ((after : List (Option Made)) → IsFilled (IsMadeBy all) before after → IsFilled (IsMadeBy start) initial after)
      → (length between ≡ length initial) × All (λ (it : MakingShare Made). AreWithin (length initial) it.made.items) rest
      × ((after : List (Option Made)) → IsFilled (IsMadeBy rest) between after → IsFilled (IsMadeBy start) initial after)
  shares_go_on rest all start share initial before between is first count within goes = (
    first.count ∙ count,
    (All-pop (λ (it : MakingShare Made). AreWithin (length initial) it.made.items) all rest (Some share) is within).0,
    λ after later. goes after (share_more rest all share before between after is first later),
  )
