use Rattle.std.proofs.Common.{arith, ℕ, ◌≡◌, ◌+◌, ◌<◌, ◌++◌, ◌∙◌, ap, sym, refl, List, length, get_or, take}
use Rattle.std.specs.Prelude.{String, string_bytes, if◌then◌else◌, true, false}
use Rattle.std.specs.declared.alloc.Global.{Global}
use Rattle.std.proofs.lemmas.List.Sums.{fold_more}
use Rattle.std.proofs.lemmas.Grind.{common_steps}
use Rattle.dds_idl.specs.Names.{Names, innermost, is_declared}
use Rattle.dds_idl.proofs.draft.Draft.innermost.Goals as goal
use Rattle.dds_idl.proofs.draft.Draft.innermost.Goals.{then-contains_key, else-contains_key}

-- one more module
step : (names : Names) (prefixes : List (String Global)) (name found new : List ℕ) (i : ℕ)
    (p : String Global) → i < length prefixes → p ≡ get_or prefixes i p
    → found ≡ innermost names (take i prefixes) name
    → new ≡ (if is_declared names (string_bytes p ++ name) then string_bytes p ++ name else found)
    → new ≡ innermost names (take (i + 1) prefixes) name
step names prefixes name found new i p there item so_far is =
    let choice : List ℕ → String Global → List ℕ = λ (f : List ℕ) (q : String Global).
    if is_declared names (string_bytes q ++ name) then string_bytes q ++ name else f in
    is ∙ ap (λ (f : List ℕ). choice f p) so_far
    ∙ ap (λ (q : String Global). choice (innermost names (take i prefixes) name) q) item
    ∙ sym (fold_more choice name prefixes i p there)

-- what a choice is where a module declares the name, and where it doesn't
chosen : (names : Names) (looked found new : List ℕ) → is_declared names looked ≡ true
    → new ≡ looked → new ≡ (if is_declared names looked then looked else found)
chosen names looked found new there is = is ∙ sym (rw there refl)

kept : (names : Names) (looked found new : List ℕ) → is_declared names looked ≡ false
    → new ≡ found → new ≡ (if is_declared names looked then looked else found)
kept names looked found new there is = is ∙ sym (rw there refl)

pub loop-prefix-preserved : goal.loop-prefix-preserved
loop-prefix-preserved c =
    let names : Names = c.args.self.now.made.names in
    let prefixes : List (String Global) = c.args.self.now.prefixes.items in
    let i : ℕ = c.loop-prefix.prefix-index in
    let p : String Global = c.prefix-item.result in
    let name : List ℕ = c.args.name.now in
    let g : string_bytes c.in_ok-full.full ≡ c.as_str.result.now = c.in_ok-full.ensures.ok in
    let h : c.as_str.result.now ≡ string_bytes p = c.as_str.ensures.value in
    let looked : string_bytes c.push_str.new.self ≡ string_bytes p ++ name =
    grind (arith, common_steps, c.push_str.ensures.bytes, c.in_ok-push_str.was, g, h) in
    let there : i < length prefixes =
    omega (arith, ap length c.deref-prefix-items.ensures.value, c.loop-prefix-test.true) in
    let item : p ≡ get_or prefixes i p = c.prefix-item.is
    ∙ ap (λ (xs : List (String Global)). get_or xs i p) c.deref-prefix-items.ensures.value in
    elim c.if-contains_key.branch [
      | then-contains_key w ↦ step names prefixes name (string_bytes c.loop-prefix.found)
          (string_bytes c.if-contains_key.found) i p there item c.loop-prefix.invariant
          (chosen names (string_bytes p ++ name) (string_bytes c.loop-prefix.found)
          (string_bytes c.if-contains_key.found)
          (sym (w.if-contains_key.ensures
          ∙ ap (λ (q : List ℕ). is_declared names q) (c.as_str-in-loop-prefix.ensures.value ∙ looked)))
          (ap (λ (s : String Global). string_bytes s) w.found-is ∙ looked))
      | else-contains_key w ↦ step names prefixes name (string_bytes c.loop-prefix.found)
          (string_bytes c.if-contains_key.found) i p there item c.loop-prefix.invariant
          (kept names (string_bytes p ++ name) (string_bytes c.loop-prefix.found)
          (string_bytes c.if-contains_key.found)
          (sym (w.if-contains_key.ensures
          ∙ ap (λ (q : List ℕ). is_declared names q) (c.as_str-in-loop-prefix.ensures.value ∙ looked)))
          (ap (λ (s : String Global). string_bytes s) w.found-is))
    ]
