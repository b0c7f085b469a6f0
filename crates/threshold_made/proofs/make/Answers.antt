-- The walk, the answer, and the image where it fits.
use Prim.Native.Nat.{ℕ}
use mathlib.Core.Path.{refl, ap, ◌∙◌}
use native.Mathlib.Omega.{arith}
use lib.ListN.{length, replicate, length-replicate}
use Rattle.std.proofs.lemmas.Result.{err_from_is_err_and}
use Rattle.std.specs.Prelude.{Ok, Err}
use Rattle.threshold_made.proofs.Ends.{few, image_holds, short, all}
use Rattle.threshold_reading.proofs.Steps.{text-length}
use Rattle.threshold_made.proofs.make.Goals as goal

pub returns-in_err-n : goal.returns-in_err-n
returns-in_err-n c =
    let r = all c.args.text.now c.args.room.now _ c.walk-s.result (Err c.in_err-n.field-0.0) 0 c.walk-s.ensures.0 c.walk-s.ensures.1 c.in_err-n.ensures refl _ (omega arith) (image_holds _ _ _) in
    let p = err_from_is_err_and c.from_residual.result c.from_residual.ensures.1 in
    rw (p.1, p.2) (record { answer = r.0; memory = r.1 })

pub overflow_mul-n : goal.overflow_mul-n
overflow_mul-n c =
    record { fits = omega (arith, few c.args.text.now c.walk-s.result (Ok c.in_ok-n.n) c.walk-s.ensures.0 c.in_ok-n.ensures) }

pub returns-then-room-n : goal.returns-then-room-n
returns-then-room-n c =
    let r = short c.args.text.now c.args.room.now _ c.walk-s.result (Ok c.in_ok-n.n) c.in_ok-n.n c.walk-s.ensures.0 c.walk-s.ensures.1 c.in_ok-n.ensures refl c.if-room-n.true in
    record { answer = r.0; memory = r.1 }

pub store_all-requires : goal.store_all-requires
store_all-requires c =
    let h = few c.args.text.now c.walk-s.result (Ok c.in_ok-n.n) c.walk-s.ensures.0 c.in_ok-n.ensures in record {
      t_len = ap length c.walk-s.ensures.1 ∙ (text-length c.args.text.now (replicate 9472 0) ∙ length-replicate {A = ℕ} 9472 0);
      n_bound = h;
      n_in_bounds = omega arith;
    }

pub returns : goal.returns
returns c =
    let r = all c.args.text.now c.args.room.now _ c.walk-s.result (Ok c.in_ok-n.n) c.in_ok-n.n c.walk-s.ensures.0 c.walk-s.ensures.1 c.in_ok-n.ensures refl _ (omega arith) c.store_all.ensures in
    record { answer = r.0; memory = r.1 }
