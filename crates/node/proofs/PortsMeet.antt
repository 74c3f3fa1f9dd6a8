-- Each port call that is not refused meets the rule of the ports. Assumes nothing.
use Rattle.std.specs.Prelude.{Result, Err, Ok}
use mathlib.Core.Path.{◌≡◌, refl, sym, ap, ◌∙◌}
use Prim.Native.Nat.{ℕ}
use native.Mathlib.Omega.{arith}
use Rattle.callrules.specs.ports.Ports.{ports_judged}
use Rattle.frames.specs.Cells.{Words}
use Rattle.node.specs.State.{bad_join}
use Rattle.node.specs.Calls.{ports_state, ports_answer, ports_call}
use Rattle.node.specs.CallContracts.{PortsContract}
use Rattle.node.specs.declared.Join.{Join}
use Rattle.node.specs.declared.PortedJoin.{PortedJoin}
use Rattle.frames.specs.declared.outcomes.NodeState.{NodeState}
use Rattle.frames.specs.declared.outcomes.PortState.{PortState}
use Rattle.frames.specs.declared.refusals.Refusal.{Refusal}
use Rattle.frames.specs.declared.refusals.Refusal.TheVariants.{BadJoin, Failed}
use Rattle.frames.specs.declared.outcomes.Ports.{Ports}
use Rattle.frames.proofs.outcomes.Tests.{past}
use Rattle.callrules.proofs.ports.PortRule.{Moved, Told, three, moved_rule, told_rule}

pub record PortsMeet (j : Join) (l r s : PortState) (u : NodeState) (a b d : PortState) : Type 0 where
  pub moved : Moved j.state l s j.queue_words u
  pub told : Told u (three l r s) (three a b d)

-- Every port call that is not refused meets the rule.
pub ports_meet : (j : Join) (area_l area_r : Words) (l r s : PortState) (x : PortedJoin) → PortsContract j area_l area_r l r s x
    → (p : Ports) → x.answer ≡ Ok p → PortsMeet j l r s x.join.state p.left p.right p.send
unfolding ports_call ports_judged
ports_meet j area_l area_r l r s x h p is = go (ports_answer j area_l area_r l r s) refl
  where
    apart : (n : Refusal) (p : Ports) → ◌≡◌ {A = Result Ports Refusal} (Err n) (Ok p) → ⊥
    apart n p e = let z : ◌≡◌ {A = ℕ} 0 1 = cc in omega arith

    told_or : Ports → Result Ports Refusal → Ports
    told_or q (Ok y) = y
    told_or q (Err n) = q

    go : (y : Result Ports Refusal) → ports_answer j area_l area_r l r s ≡ y → PortsMeet j l r s x.join.state p.left p.right p.send
    go (Err n) e = absurd (apart n p (sym (rw (e, ports_call) at h.answer) ∙ is))
    go (Ok y) e =
        let state : x.join.state ≡ ports_state j l s = ap (λ (k : Join). k.state) (rw (e, ports_call) at h.join) in
        let same : ◌≡◌ {A = Result Ports Refusal} (Ok y) (Ok p) = sym (rw (e, ports_call) at h.answer) ∙ is in
        let p2 = past (bad_join j area_l area_r) (Err BadJoin) _ (Ok y) (apart BadJoin y) e in
        let p3 = past j.failed (Err Failed) _ (Ok y) (apart Failed y) p2.1 in
        rw state
        (record {
          moved = moved_rule j.state l s j.queue_words;
          told = told_rule (ports_state j l s) l r s p (ap (told_or p) (p3.1 ∙ same));
        })
