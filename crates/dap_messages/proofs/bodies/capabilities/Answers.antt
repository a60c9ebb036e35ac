use Rattle.dap_messages.specs.Bodies.{capabilities}
use Rattle.dap_messages.proofs.bodies.capabilities.Goals as goal

pub returns : goal.returns
unfolding capabilities
returns c =
    let m6 = c.flag-6.ensures _ (c.flag-5.ensures _ (c.flag-4.ensures _ (c.flag-3.ensures _ (c.flag-2.ensures _ (c.flag.ensures _ c.new.ensures))))) in
    let m12 = c.flag-12.ensures _ (c.flag-11.ensures _ (c.flag-10.ensures _ (c.flag-9.ensures _ (c.flag-8.ensures _ (c.flag-7.ensures _ m6))))) in
    let m18 = c.flag-18.ensures _ (c.flag-17.ensures _ (c.flag-16.ensures _ (c.flag-15.ensures _ (c.flag-14.ensures _ (c.flag-13.ensures _ m12))))) in
    let m24 = c.flag-24.ensures _ (c.flag-23.ensures _ (c.flag-22.ensures _ (c.flag-21.ensures _ (c.flag-20.ensures _ (c.flag-19.ensures _ m18))))) in
    c.build.ensures _ m24
