-- Round by round: before round n there are n - 1 done.
use Rattle.std.proofs.Common.{◌≡◌, ℕ, suc, ◌+◌, ◌-◌, ◌≤◌, List, ap, ◌∙◌, arith}
use Rattle.primitives.specs.Aes.{round, last_round, rounds, cipher, round_key}
use Rattle.primitives.specs.Inner.{of_columns}
use Rattle.primitives.proofs.aes.ExpandedKey.cipher.Goals as goal

turn : (k : ℕ → List ℕ) (n : ℕ) (p t x : List ℕ) → 1 ≤ n → t ≡ rounds k (n - 1) p → x ≡ round k n t → x ≡ rounds k (n + 1 - 1) p
unfolding rounds
turn k n p t x l e r =
    let m : n + 1 - 1 ≡ suc (n - 1) = omega arith in
    let q : suc (n - 1) ≡ n = omega arith in
    rw (m, q, ← e) r

pub loop-n-preserved : goal.loop-n-preserved
loop-n-preserved c =
    let l = c.loop-n in
    let k = round_key c.args.self.now.words in
    (omega arith, omega arith, λ p e. turn k l.n p (of_columns l.t) (of_columns c.round-next.result) l.invariant.0 (l.invariant.2 p e) c.round-next.ensures)

pub returns : goal.returns
unfolding rounds cipher
returns c =
    let l = c.loop-n in
    let a = c.args in
    let k = round_key a.self.now.words in
    let end : l.n ≡ c.rounds_done-rounds.result = omega arith in
    rw (← c.rounds_done-rounds.ensures) (c.last_round.ensures ∙ ap (last_round k c.rounds_done-rounds.result) (rw end at (l.invariant.2 (of_columns a.w) c.add_round_key-t.ensures)))
