pub mod Laws
pub mod Rack
pub mod SessionRack
pub mod SessionUnits
pub mod Sides
