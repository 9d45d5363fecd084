-- What holds of a result that is Ok.
use Rattle.std.proofs.Common.{◌≡◌, Result, Ok, Err, IfOk, OnOk, false, is_err, true≢false}

pub on_ok : {X E : Type 0} {P : Type 0} (r : Result X E) → P → OnOk r P
on_ok (Ok x) p = p
on_ok (Err e) p = tt

pub on_ok_then : {X E : Type 0} {P Q : Type 0} (r : Result X E) → (P → Q) → OnOk r P → OnOk r Q
on_ok_then (Ok x) f p = f p
on_ok_then (Err e) f p = tt

pub if_ok_then : {X E : Type 0} {P Q : X → Type 0} (r : Result X E) → ((x : X) → P x → Q x) → IfOk r P → IfOk r Q
if_ok_then (Ok x) f p = f x p
if_ok_then (Err e) f p = tt

pub ok_of : {X E : Type 0} {P : Type 0} (r : Result X E) → is_err r ≡ false → OnOk r P → P
ok_of (Ok x) h p = p
ok_of (Err e) h p = absurd (true≢false h)
