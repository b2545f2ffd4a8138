-- From verdicts on rows to the verdict on the rules.
use Rattle.std.proofs.Common.{◌≡◌, ℕ, zero, suc, ◌+◌, ◌^◌, ◌<◌, ◌≤◌, ◌⊎◌, List, [], ◌∷◌, ◌++◌, length, refl, sym, subst, inl, inr, ⊎_elim, arith}
use Rattle.std.specs.List.{All, Contains}
use Rattle.std.proofs.lemmas.List.Elements.{All-push, Contains-append_left, Contains-append_right}
use Rattle.std.proofs.lemmas.Option.{slice_get_within}
use Rattle.kb_word.specs.Words.{Pair}
use Rattle.kb_word.specs.Overlap.{OverlapOf, IsConfluent}
use Rattle.kb_draw.specs.Sharing.{IsShared}
use Rattle.kb_confluence.specs.declared.confluence.Verdict.{Verdict}
use Rattle.kb_confluence.specs.declared.confluence.Verdict.TheVariants.{Yes, No}
use Rattle.kb_confluence.specs.FirstApart.{IsFirstApart}
use Rattle.kb_confluence.specs.Answers.{IsVerdict}
use Rattle.kb_confluence.specs.Rows.{RowIsJoined, IsFirstOfRow, IsRowVerdict, NamesFirst, named_row, IsEarlier}
use Rattle.kb_confluence.specs.Shares.{IsEarliestOf}
use Rattle.kb_confluence.specs.declared.shares.RowShare.{RowShare}

-- the first overlap of its row that is apart is the first of all, where the rows before it are joined
first_of_all : (rules : List Pair) (i j place : ℕ) (u v : List ℕ) → ((row : ℕ) → row < i → RowIsJoined rules row)
    → IsFirstOfRow rules i j place u v → IsFirstApart rules i j place u v
first_of_all rules i j place u v before here = record {
  first = here.first;
  second = here.second;
  overlap = here.overlap;
  parts = here.parts;
  earlier = λ k l q one other comes overlap. ⊎_elim
      (λ (low : k < i). before k low l q one other overlap)
      (λ (same : (k ≡ i) × ((l < j) ⊎ ((l ≡ j) × (q < place)))).
      let P : ℕ → Type 0 = λ row. OverlapOf rules row l q one other in
      here.earlier l q one other same.1 (subst P same.0 overlap))
      comes;
}

-- all rules are confluent where each row is joined
all_joined : (rules : List Pair) → ((row : ℕ) → row < length rules → RowIsJoined rules row) → IsConfluent rules
all_joined rules each i j place first second overlap =
    each i (slice_get_within rules i first overlap.is_first) j place first second overlap

-- a verdict that names the first overlap of its row, where the rows before it are joined, is that on the rules
verdict_on_all : (rules : List Pair) (verdict : Verdict) → length rules ≤ 2 ^ 31 → NamesFirst rules verdict
    → ((i : ℕ) → i < length rules → i + 1 < named_row verdict → RowIsJoined rules i) → IsVerdict rules verdict
verdict_on_all rules Yes few named joined = all_joined rules (λ row within. joined row within (omega (arith, few, within)))
verdict_on_all rules (No zero j place u v) few named joined = absurd named
verdict_on_all rules (No (suc i) zero place u v) few named joined = absurd named
verdict_on_all rules (No (suc i) (suc j) place u v) few named joined =
    let within = slice_get_within rules i named.first named.overlap.is_first in
    first_of_all rules i j place u v (λ row low. joined row (omega (arith, low, within)) (omega (arith, low))) named

-- a row that isn't joined is the one that its verdict names
pub named_here : (rules : List Pair) (row : ℕ) (verdict : Verdict) → IsRowVerdict rules row verdict → ¬ (verdict ≡ Yes) → named_row verdict ≡ row + 1
named_here rules row Yes holds some = absurd (some refl)
named_here rules row (No i zero place u v) holds some = absurd holds
named_here rules row (No i (suc j) place u v) holds some = holds.0

-- and it names the first overlap of the row
pub names_first : (rules : List Pair) (row : ℕ) (verdict : Verdict) → IsRowVerdict rules row verdict → NamesFirst rules verdict
names_first rules row Yes holds = tt
names_first rules row (No i zero place u v) holds = absurd holds
names_first rules row (No zero (suc j) place u v) holds = let is = holds.0 in absurd (let no : ⊥ = omega (arith, is) in no)
names_first rules row (No (suc i) (suc j) place u v) holds =
    let is : suc i ≡ row + 1 = holds.0 in
    let same : row ≡ i = omega (arith, is) in
    let P : ℕ → Type 0 = λ k. IsFirstOfRow rules k j place u v in
    subst P same holds.1

-- the rows before the one that the verdict names are those before a row that comes no later
pub still_joined : (rules : List Pair) (row : ℕ) (before after : Verdict) → row < named_row before → named_row after ≡ row + 1 → (other : ℕ)
    → (other + 1 < named_row before → RowIsJoined rules other) → other + 1 < named_row after → RowIsJoined rules other
still_joined rules row before after early here other joined low = joined (omega (arith, early, here, low))

-- ---- what the shares say together

pub no_shares : IsEarliestOf [] Yes
no_shares = record {
  among = inl refl;
  first = λ i x within. absurd (let no : ⊥ = omega (arith, within) in no);
}

pub one_more_share : (shares : List RowShare) (share : RowShare) (before chosen : Verdict) → IsEarlier before share.verdict chosen
    → IsEarliestOf shares before → IsEarliestOf (shares ++ share ∷ []) chosen
one_more_share shares share before chosen earlier all = ⊎_elim
    (λ (first : (chosen ≡ before) × (named_row before ≤ named_row share.verdict)).
    let low = first.1 in
    let T : Verdict → Type 0 = IsEarliestOf (shares ++ share ∷ []) in
    subst T (sym first.0) (record {
      among = ⊎_elim (λ (none : before ≡ Yes). inl none)
          (λ (one : (it : RowShare) × Contains shares it × (before ≡ it.verdict)).
          inr (one.0, Contains-append_left shares (share ∷ []) one.0 one.1, one.2))
          all.among;
      first = All-push (λ (it : RowShare). named_row before ≤ named_row it.verdict) shares share all.first low;
    }))
    (λ (second : (chosen ≡ share.verdict) × (named_row share.verdict ≤ named_row before)).
    let low = second.1 in
    let T : Verdict → Type 0 = IsEarliestOf (shares ++ share ∷ []) in
    subst T (sym second.0) (record {
      among = inr (share, Contains-append_right shares (share ∷ []) share (0, omega arith, refl), refl);
      first = All-push (λ (it : RowShare). named_row share.verdict ≤ named_row it.verdict) shares share
          (λ k d within. let was = all.first k d within in omega (arith, was, low)) (omega arith);
    }))
    earlier

-- where each row is done in one of the shares, the earliest verdict is that on the rules
pub verdict_of_all : (rules : List Pair) (shares : List RowShare) (verdict : Verdict) → length rules ≤ 2 ^ 31
    → All (λ share. NamesFirst rules share.verdict) shares
    → IsShared (length rules) (λ share row. row + 1 < named_row share.verdict → RowIsJoined rules row) shares
    → IsEarliestOf shares verdict → IsVerdict rules verdict
verdict_of_all rules shares verdict few named shared earliest = verdict_on_all rules verdict few
    (⊎_elim (λ (none : verdict ≡ Yes). subst (NamesFirst rules) (sym none) tt)
    (λ (one : (it : RowShare) × Contains shares it × (verdict ≡ it.verdict)).
    let P : RowShare → Type 0 = λ share. NamesFirst rules share.verdict in
    let at = one.1 in
    subst (NamesFirst rules) (sym one.2) (subst P at.2 (named at.0 one.0 at.1)))
    earliest.among)
    (λ row within low.
    let one = shared row within in
    let at = one.among in
    let P : RowShare → Type 0 = λ share. named_row verdict ≤ named_row share.verdict in
    let most : named_row verdict ≤ named_row one.share.verdict = subst P at.2 (earliest.first at.0 one.share at.1) in
    one.did (omega (arith, low, most)))
