-- `roots::start::at32::rsqrt` meets its contract: r of the scope document, letter by letter. Assumes nothing.
use Rattle.std.proofs.Common.{◌≡◌, ℕ, ◌*◌, ◌/◌, ◌^◌, arith}
use Rattle.defs.specs.Starts.Square32.{h, p, r}
use Rattle.starts.proofs.Square32.{safe}
use Rattle.roots.proofs.start.at32.rsqrt.Goals as goal

-- the high half of the product, eleven bits less
step : (n c : ℕ) → n * c / 2 ^ 32 / 2 ^ 11 ≡ c * n / 2 ^ 43
step n c = omega arith

pub overflow_cast-step : goal.overflow_cast-step
unfolding h p
overflow_cast-step c =
    let s = (safe c.args.n c.requires c.ranges.n.fits) in
    rw (c.wmul_hi.ensures, step, c.guess-p.ensures.0) (record { fits = omega (arith, s.step_fits, s.product_fits) })

pub overflow_sub-result : goal.overflow_sub-result
unfolding h p
overflow_sub-result c = rw (c.wmul_hi.ensures, step, c.guess-p.ensures.0) (safe c.args.n c.requires c.ranges.n.fits).step_fits

pub overflow_mul-result-2 : goal.overflow_mul-result-2
unfolding h p r
overflow_mul-result-2 c = rw (c.wmul_hi.ensures, step, c.guess-p.ensures.0) (record { fits = (safe c.args.n c.requires c.ranges.n.fits).r_fits })

pub returns : goal.returns
unfolding h p r
returns c = rw (c.wmul_hi.ensures, step, c.guess-p.ensures.0)
