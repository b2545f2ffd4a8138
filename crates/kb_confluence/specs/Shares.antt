-- What the shares of all workers say together.
use Rattle.std.specs.Prelude.{◌≡◌, ◌≤◌, ◌⊎◌, List, All}
use Rattle.std.specs.List.{Contains}
use Rattle.kb_confluence.specs.declared.confluence.Verdict.{Verdict}
use Rattle.kb_confluence.specs.declared.confluence.Verdict.TheVariants.{Yes}
use Rattle.kb_confluence.specs.declared.shares.RowShare.{RowShare}
use Rattle.kb_confluence.specs.Rows.{named_row}

-- the verdict of one of the shares, or `Yes`, and none of them names an earlier row
pub record IsEarliestOf (shares : List RowShare) (verdict : Verdict) : Type 0 where
  pub among : (verdict ≡ Yes) ⊎ ((share : RowShare) × Contains shares share × (verdict ≡ share.verdict))
  pub first : All (λ share. named_row verdict ≤ named_row share.verdict) shares
