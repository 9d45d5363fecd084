-- Least values that are written one after another.
use Rattle.std.proofs.Common.{◌≡◌, ℕ, suc, ◌+◌, ◌-◌, ◌<◌, replicate, sym, ◌∙◌, ap}
use Rattle.rtps_cdr.specs.Writing.{Output, all_written}
use Rattle.dds_xcdr.specs.Xtype.{Xtype, Fields}
use Rattle.dds_described.specs.Least.{least, least_members}
use Rattle.dds_described.specs.Writing.{all_fields, put, written}
use Rattle.dds_described.proofs.Copies.{left_over, put_more}

-- a writer after the least value of a type, after n of them, and after those of members
abbrev pub least_put : Xtype → Output → Output
least_put t w = put (λ at e. written t at e (least t)) w

abbrev pub leasts_put : Xtype → ℕ → Output → Output
leasts_put t n w =
    put (λ at e. all_written (λ p x. written t p e x) at (replicate n (least t))) w

abbrev pub members_put : Fields → Output → Output
members_put fields w = put (λ at e. all_fields fields at e (least_members fields)) w

-- ---- items

leasts_next : (t : Xtype) (n : ℕ) (w : Output)
    → leasts_put t (suc n) w ≡ leasts_put t n (least_put t w)
leasts_next t n w =
    put_more (λ at e. written t at e (least t))
    (λ at e. all_written (λ p x. written t p e x) at (replicate n (least t))) w

-- one item more was written
pub item_written : (t : Xtype) (n i : ℕ) (m k s : Output) → i < n → k ≡ least_put t m
    → leasts_put t (n - i) m ≡ leasts_put t n s
    → leasts_put t (n - (i + 1)) k ≡ leasts_put t n s
item_written t n i m k s more is left =
    ap (λ (w : Output). leasts_put t (n - (i + 1)) w) is ∙ sym (leasts_next t (n - (i + 1)) m)
    ∙ ap (λ (j : ℕ). leasts_put t j m) (sym (left_over n i more)) ∙ left
