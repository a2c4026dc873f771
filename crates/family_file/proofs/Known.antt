-- Which keys are known, by whether the version is 2.
use Rattle.std.proofs.Common.{◌≡◌, true, false, cond, ◌++◌, ap}
use Rattle.toml.specs.Data.{Members}
use Rattle.family_file.specs.Document.{document_names, version_2_names, is_version_2, known_names}

pub known_in_version_2 : (table : Members) → is_version_2 table ≡ true → known_names table ≡ document_names ++ version_2_names
known_in_version_2 table is = ap (λ b. cond b (document_names ++ version_2_names) document_names) is

pub known_in_others : (table : Members) → is_version_2 table ≡ false → known_names table ≡ document_names
known_in_others table is = ap (λ b. cond b (document_names ++ version_2_names) document_names) is
