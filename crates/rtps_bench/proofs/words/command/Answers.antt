use Rattle.std.proofs.Common.{◌≡◌, ◌∙◌, IfOk, ap, ap₂, codes, subst}
use Rattle.clap.specs.Simple.{app_of_fields}
use Rattle.clap.specs.Words.{App, app_of, new_app, with_rule}
use Rattle.rtps_bench.specs.Line as line
use Rattle.rtps_bench.specs.Line.{IsPlainApp, bench_app}
use Rattle.rtps_bench.proofs.words.command.Goals as goal

pub returns : goal.returns
unfolding bench_app
returns c =
    let begun : app_of c.about.result ≡ new_app (codes "rtps_bench") = ap app_of_fields c.about.ensures ∙ c.new.ensures.app in
    let one : app_of c.in_ok-arg.field-0 ≡ with_rule (new_app (codes "rtps_bench")) line.readers_rule =
    c.in_ok-arg.ensures.shape c.readers.ensures.1 ∙ ap₂ with_rule begun c.readers.ensures.0 in
    subst (λ (a : App). IfOk c.with_options.result (λ k. IsPlainApp k (line.with_options a))) one c.with_options.ensures
