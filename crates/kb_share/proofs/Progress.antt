-- What is found row by row: at the end, all that is apart.
use Rattle.std.proofs.Common.{◌≡◌, ℕ, ◌<◌, List, length, subst}
use Rattle.std.specs.List.{AllPairs}
use Rattle.kb_share.specs.declared.found.Found.{Found}
use Rattle.kb_share.specs.Versions.{VersionParts}
use Rattle.kb_share.specs.Passes.{AreAllApart}
use Rattle.kb_share.proofs.RowByRow.{AreInRows, all_rows}

pub all_found : (version : VersionParts) (count : ℕ) (found : List Found) → length version.numbers ≡ length version.rules
    → AllPairs (λ one other. one < other) version.numbers → count ≡ length version.rules
    → AreInRows version.rules version.numbers count found → AreAllApart version found
all_found version count found one_each ascends all rows =
    let P : ℕ → Type 0 = λ n. AreInRows version.rules version.numbers n found in
    all_rows version.rules version.numbers one_each ascends version.number found (subst P all rows)
