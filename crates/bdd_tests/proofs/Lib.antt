mod Pushed
mod Currents
