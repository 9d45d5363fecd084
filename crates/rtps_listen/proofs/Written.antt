-- A text writes one participant or endpoint alone.
use Rattle.std.proofs.Common.{◌≡◌, Option, Some, None, Result, Ok, Err, refl, ap}
use Rattle.std.specs.Borrow.{Bor}
use Rattle.clap.specs.Words.{Text}
use Rattle.rtps_types.specs.declared.identity.Guid.{Guid}
use Rattle.rtps_types.specs.declared.identity.GuidPrefix.{GuidPrefix}
use Rattle.rtps_listen.specs.Configs.{NamesWriter}
use Rattle.rtps_files.specs.Prefixes.{WritesPrefix}

same_ok : {T E : Type 0} (r : Result T E) (a b : T) → r ≡ Ok a → r ≡ Ok b → a ≡ b
same_ok (Ok x) a b p q = cc
same_ok (Err e) a b p q = cc

pub same_prefix : (text : Text) (a b : GuidPrefix) → WritesPrefix text a → WritesPrefix text b → a ≡ b
same_prefix text a b p q = same_ok _ a b p q

pub same_writer : (fixed : Option (Bor Text)) (a b : Option Guid) → NamesWriter fixed a → NamesWriter fixed b → a ≡ b
same_writer None None None p q = refl
same_writer None None (Some b) p q = absurd q
same_writer None (Some a) b p q = absurd p
same_writer (Some text) None b p q = absurd p
same_writer (Some text) (Some a) None p q = absurd q
same_writer (Some text) (Some a) (Some b) p q = ap Some (same_ok _ a b p q)
