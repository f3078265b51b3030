-- The wire's homes fit.
use Rattle.std.proofs.Common.{subst, sym, ◌∙◌, arith, eqb→eq, leb→le}
use Rattle.std.specs.Prelude.{◌<◌}
use Rattle.std.proofs.Math.Dec.{eqb_refl}
use Rattle.stage.specs.Meaning.{Homes}
use Rattle.wire.specs.Wire.{wire}

pub wire_homes : Homes wire
wire_homes = record {
  least = λ n t. omega arith;
  most = λ n t. omega (arith, leb→le n 10000 t);
  incoming = λ n i p t s. subst (λ q. q < n) (eqb→eq p i s.1) s.0;
  somewhere = λ n i t h. (i, (h, eqb_refl i));
  once = λ n i p q t a b. eqb→eq p i a.1 ∙ sym (eqb→eq q i b.1);
}
