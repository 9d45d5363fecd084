-- What the program writes: a name and a number in each line.
use Rattle.std.specs.Prelude.{ℕ, List, ◌++◌, codes}
use Rattle.std.specs.Fmt.{decimal}
use Rattle.rtps_bench.specs.declared.counts.Counts.{Counts}
use Rattle.rtps_bench.specs.declared.times.Times.{Times}

-- a line
abbrev pub line : List ℕ → ℕ → List ℕ
line name number = name ++ (decimal number ++ codes "\n")

-- the counts, on standard output
abbrev pub counts_text : Counts → List ℕ
counts_text c =
    line (codes "datagrams ") c.datagrams
    ++ (line (codes "events ") c.events
    ++ (line (codes "samples ") c.samples
    ++ (line (codes "answers ") c.answers
    ++ line (codes "lost ") c.lost)))

-- the times, on standard error
abbrev pub times_text : Times → List ℕ
times_text t =
    line (codes "best_ns ") t.best
    ++ (line (codes "median_ns ") t.median
    ++ (line (codes "datagrams_per_s ") t.rate
    ++ line (codes "ns_per_sample ") t.each))
