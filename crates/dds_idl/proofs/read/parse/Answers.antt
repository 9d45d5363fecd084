use Rattle.std.proofs.Common.{◌≡◌, ℕ, List, get_or, take, length, subst, arith, IsUtf8}
use Rattle.std.specs.Prelude.{All}
use Rattle.std.proofs.Math.Seq.{take-length}
use Rattle.std.proofs.lemmas.List.Elements.{All-more}
use Rattle.std.proofs.lemmas.Option.{slice_get-get_or}
use Rattle.dds_idl.specs.declared.source.Source.{Source}
use Rattle.dds_idl.proofs.read.parse.Goals as goal

-- a text in UTF-8
abbrev IsText : Source → Type 0
IsText source = IsUtf8 source.text.now

pub loop-index-preserved : goal.loop-index-preserved
loop-index-preserved c =
    All-more IsText c.args.sources.now c.loop-index.index _ c.loop-index-test.true
    c.loop-index.invariant c.in-Ok.ensures

pub returns-clause-utf8 : goal.returns-clause-utf8
returns-clause-utf8 c =
    let sources : List Source = c.args.sources.now in
    let all : c.loop-index.index ≡ length sources =
    omega (arith, c.loop-index-test.false, c.loop-index.auto.index-end) in
    subst (λ (xs : List Source). All IsText xs) (take-length sources)
    (subst (λ (n : ℕ). All IsText (take n sources)) all c.loop-index.invariant)

pub returns-in-Err : goal.returns-in-Err
returns-in-Err c = record {
  utf8 = tt;
  place = λ some. record {
    index = c.loop-index.index;
    source = get_or c.args.sources.now c.loop-index.index _;
    offset = _;
    there = slice_get-get_or c.args.sources.now c.loop-index.index _ c.loop-index-test.true;
    blamed = c.error_of.ensures.place some;
  };
}
